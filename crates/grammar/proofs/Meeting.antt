-- The laws of looks and of readers. Assumes nothing.
use mathlib.Core.Path.{◌≡◌, refl, sym, ◌∙◌, ap, ap₂, subst}
use mathlib.Core.List.{List, [], ◌∷◌, ◌++◌, append_assoc}
use mathlib.Core.Bool.{Bool, true, false, not, ◌&&◌}
use mathlib.Core.Option.{Option, some}
use Prim.Native.Nat.{ℕ, zero, suc, pred, ◌+◌, ◌-◌, ◌≤◌, ◌<◌}
use native.Mathlib.Numerals.{add-one}
use native.Mathlib.Omega.{arith}
use lib.Dec.{T, ltb, ltb→lt, leb, eqb}
use lib.ListN.{length}
use borrow.Author.Tests.{ltb-true, ltb-false, leb-true, leb-false, eqb-true, eqb-false, lt-ltb, le-ltb}
use Rattle.token.specs.Find.{pick, both, either}
use Rattle.token.specs.Tokens.{step_at}
use Rattle.token.specs.declared.Step.{Step}
use Rattle.token.specs.declared.Step.TheVariants.{Found, Refused, End}
use Rattle.token.specs.declared.Sort.{Sort}
use Rattle.token.specs.declared.Sort.TheVariants.{Word, Number, String, Punctuator, Float}
use Rattle.token.proofs.Find.{by_test}
use Rattle.token.proofs.Tables.{up_to}
use Rattle.token.proofs.Steps.{found_fits, lex_found, lex_bad, lex_end}
use Rattle.grammar.specs.Grammar.{Rule, Terminal, Class, ◌·◌, ◌▸◌, ∎, matches}
use Rattle.grammar.specs.Terminals.{token_of}
use Rattle.grammar.specs.Factored.{Nonterminal, paper, Symbols, ◌⟹◌, choices, by}
use Rattle.grammar.specs.Machine.{nullable, nullable_form, empty_form, starts, ended, ◌▹◌, opened, deeper_by, deeper, at_end, next, run, Stream}
use Rattle.grammar.proofs.Checks.{takes}
use Rattle.grammar.specs.Readers.{punctuator_code, code_of, class_at, stream_of, lex_at, look_of, look_at, stop, advanced, refusal, expected, refusal_of, seen, on_by, on, left, rest_by, rest, Took, Reads}
use Rattle.grammar.specs.declared.Look.{Look}
use Rattle.grammar.specs.Answered.{Answer}
use Rattle.std.specs.Prelude.{Err}
use Rattle.grammar.specs.declared.Refusal.TheVariants.{NotAdmitted}
use Rattle.grammar.proofs.Steps.{when, feed_tok, feed_enter, feed_only, nullable_append, run_tok_no, run_pass, run_pass_end, run_no, run_no_end, took_nil, took_tok, took_rule, took_then}
use Rattle.grammar.proofs.Codes.{Yes, No, at_code, not_code, brace_open, brace_close, class_code}

-- THE INVARIANT of a loop that reads the rule x from the look a: it is still to be read from the look b.
pub record Still (x : Rule) (s : List ℕ) (a b : Look) : Type 0 where
  pub same : (k : Symbols) → on s a (paper x ▸ k) ≡ on s b (paper x ▸ k)
  pub less : left s b ≤ left s a
  pub wraps : b.code ≤ 56 → (a.code ≤ 56) × ((u : Stream) → Took ◌⟹◌ (paper x ▸ ∎) (rest s b) u → Took ◌⟹◌ (paper x ▸ ∎) (rest s a) u)

-- Looks ----------------------------------------------------------------------------------------------------------------------------------

-- What holds of the outcomes of a token, of the end and of a refusal holds of those of a look.
module _ (s : List ℕ) (a : Look) where
  pub by_look : (Q : (Symbols → Answer) → Type 0)
      → (a.code < 56 → Q (λ k. run a.depth k (seen a ▹ lex_at s a.next)))
      → (a.code ≡ 56 → Q (λ k. run a.depth k (ended a.at)))
      → (56 < a.code → Q (λ k. refusal_of a.code a.at))
      → Q (on s a)
  unfolding on on_by
  by_look Q t e r = go (ltb a.code 56) refl (eqb a.code 56) refl
    where
      go : (b : Bool) → ltb a.code 56 ≡ b → (b' : Bool) → eqb a.code 56 ≡ b' → Q (λ k. on_by b b' s a k)
      go true p b' q = t (ltb-true a.code 56 p)
      go false p true q = e (eqb-true a.code 56 q)
      go false p false q = r (let g = ltb-false a.code 56 p in let n = eqb-false a.code 56 q in omega arith)

  pub on_token : a.code < 56 → (k : Symbols) → on s a k ≡ run a.depth k (seen a ▹ lex_at s a.next)
  unfolding on on_by
  on_token h k = ap (λ b. on_by b (eqb a.code 56) s a k) (lt-ltb a.code 56 h)

  pub left_token : a.code < 56 → left s a ≡ suc (length s - a.next)
  unfolding left
  left_token h = ap (λ b. pick b (suc (length s - a.next)) 0) (lt-ltb a.code 56 h)

punctuator_low : (b : ℕ) → punctuator_code b < 56
unfolding punctuator_code
punctuator_low b =
    go (eqb b 123) (eqb b 125) (eqb b 91) (eqb b 93) (eqb b 61) (eqb b 59) (eqb b 58) (eqb b 44) (eqb b 46)
  where
    go : (a b c d e f g h i : Bool)
        → pick a 45 (pick b 46 (pick c 47 (pick d 48 (pick e 49 (pick f 50 (pick g 51 (pick h 52 (pick i 53 55)))))))) < 56
    go true b c d e f g h i = omega arith
    go false true c d e f g h i = omega arith
    go false false true d e f g h i = omega arith
    go false false false true e f g h i = omega arith
    go false false false false true f g h i = omega arith
    go false false false false false true g h i = omega arith
    go false false false false false false true h i = omega arith
    go false false false false false false false true i = omega arith
    go false false false false false false false false true = omega arith
    go false false false false false false false false false = omega arith

code_low : (k : Sort) → code_of k < 56
unfolding code_of
code_low (Word c) = by_test (λ (n : ℕ). n < 56) (ltb c 43) c 55 (λ t. let h = ltb-true c 43 t in omega arith) (λ _. omega arith)
code_low (Number n m) = omega arith
code_low String = omega arith
code_low (Float n m k) = omega arith
code_low (Punctuator b) = punctuator_low b

-- A look at a place goes on with the tokens from there.
pub on_look : (s : List ℕ) (p d : ℕ) (k : Symbols) → on s (look_at s p d) k ≡ run d k (lex_at s p)
unfolding look_at look_of lex_at stream_of token_of seen run on on_by
on_look s p d k = go (step_at s p) refl
  where
    go : (r : Step) → step_at s p ≡ r → on s (look_of r d) k ≡ run d k (lex_at s p)
    go (Found t c) e =
        let o = found_fits s p t c e in
        let n : c.at - t.at ≡ t.len = omega arith in
        on_token s (look_of (Found t c) d) (code_low t.sort) k
        ∙ ap₂ (λ (q : Class) (n : ℕ). run d k (record { class = q; place = t.at; length = n } ▹ lex_at s c.at)) (class_code t.sort) n
        ∙ sym (ap (λ l. run d k (stream_of l)) (lex_found s p t c e))
    go (Refused q) e = sym (ap (λ l. run d k (stream_of l)) (lex_bad s p q e))
    go (End n) e = sym (ap (λ l. run d k (stream_of l)) (lex_end s p n e))

pub left_look : (s : List ℕ) (p d : ℕ) → left s (look_at s p d) ≤ length s - p
unfolding look_at look_of left
left_look s p d = go (step_at s p) refl
  where
    go : (r : Step) → step_at s p ≡ r → left s (look_of r d) ≤ length s - p
    go (Found t c) e =
        let o = found_fits s p t c e in
        let l = left_token s (look_of (Found t c) d) (code_low t.sort) in
        omega arith
    go (Refused q) e = omega arith
    go (End n) e = omega arith

pub rest_token : (s : List ℕ) (a : Look) → a.code < 56 → rest s a ≡ seen a ▹ lex_at s a.next
unfolding rest rest_by
rest_token s a h = ap (λ b. rest_by b s a) (lt-ltb a.code 56 h)

pub rest_look : (s : List ℕ) (p d : ℕ) → (look_at s p d).code ≤ 56 → rest s (look_at s p d) ≡ lex_at s p
unfolding look_at look_of lex_at stream_of token_of seen rest rest_by
rest_look s p d = go (step_at s p) refl
  where
    go : (r : Step) → step_at s p ≡ r → (look_of r d).code ≤ 56 → rest s (look_of r d) ≡ lex_at s p
    go (Found t c) e h =
        let o = found_fits s p t c e in
        let n : c.at - t.at ≡ t.len = omega arith in
        rest_token s (look_of (Found t c) d) (code_low t.sort)
        ∙ ap₂ (λ (q : Class) (n : ℕ). record { class = q; place = t.at; length = n } ▹ lex_at s c.at) (class_code t.sort) n
        ∙ sym (ap stream_of (lex_found s p t c e))
    go (Refused q) e h = absurd (omega arith)
    go (End n) e h = sym (ap stream_of (lex_end s p n e))

-- Readers --------------------------------------------------------------------------------------------------------------------------------

infixr 30 ◌⊳◌
pub ◌⊳◌ : {e e' : ℕ} {f g : Symbols} {s : List ℕ} {a b c : Look} → Reads e f s a b → Reads e' g s b c → Reads e (f ++ g) s a c
◌⊳◌ {f} {g} {s} {a} m n =
    record {
      reads = λ k. ap (on s a) (append_assoc f g k) ∙ m.reads (g ++ k) ∙ n.reads k;
      falls = let x = m.falls in let y = n.falls in omega arith;
      took = λ h. let y = n.took h in let x = m.took y.0 in (x.0, took_then x.1 y.1);
    }

pub loosen : {e : ℕ} {f : Symbols} {s : List ℕ} {a b : Look} → Reads e f s a b → Reads 0 f s a b
loosen m = record { reads = m.reads; falls = let x = m.falls in omega arith; took = m.took }

-- A terminal that takes the token.
pred_is : (d : ℕ) → pred d ≡ d - 1
pred_is zero = refl
pred_is (suc d) = omega arith

pub take : (t : Terminal) {s : List ℕ} {a r : Look} → Yes (matches t) a.code → r ≡ advanced s a → Reads 1 (t · ∎) s a r
unfolding advanced run when next deeper deeper_by opened seen on on_by left refusal_of
take t {s} {a} {r} (l, m) e =
    subst (Reads 1 (t · ∎) s a) (sym e)
    (record {
      reads = λ k.
          on_token s a l (t · k)
          ∙ ap₂ (λ o d. next o d a.at (λ j i. run i j (lex_at s a.next))) (feed_tok t k (class_at a.code) ∙ ap (λ b. when b (some k)) m)
          (ap₂ (λ p q. deeper_by p q a.depth) (brace_open a.code l) (brace_close a.code l))
          ∙ go (eqb a.code 45) (eqb a.code 46) (ltb a.depth 16) refl k;
      falls = let x = left_token s a l in let y = down (eqb a.code 45) (eqb a.code 46) (ltb a.depth 16) in omega arith;
      took = λ h. (
        omega arith,
        subst (λ u. Took ◌⟹◌ (t · ∎) u (rest s (advanced s a))) (sym (rest_token s a l))
            (took_tok (seen a) m (gone (eqb a.code 45) (eqb a.code 46) (ltb a.depth 16) h)),
      );
    })
  where
    to : Bool → Bool → Bool → Look
    to b b' c =
        pick b (pick c (look_at s a.next (a.depth + 1)) (stop 5 a)) (pick b' (look_at s a.next (a.depth - 1)) (look_at s a.next a.depth))

    step_to : Symbols → Option ℕ → Answer
    step_to k o = next (some k) o a.at (λ j i. run i j (lex_at s a.next))

    go : (b b' c : Bool) → ltb a.depth 16 ≡ c → (k : Symbols) → step_to k (deeper_by b b' a.depth) ≡ on s (to b b' c) k
    go true b' true e k =
        ap (λ o. step_to k (opened o a.depth)) e ∙ ap (λ d. run d k (lex_at s a.next)) (sym (add-one a.depth))
        ∙ sym (on_look s a.next (a.depth + 1) k)
    go true b' false e k = ap (λ o. step_to k (opened o a.depth)) e
    go false true c e k = ap (λ d. run d k (lex_at s a.next)) (pred_is a.depth) ∙ sym (on_look s a.next (a.depth - 1) k)
    go false false c e k = sym (on_look s a.next a.depth k)

    none_at : (p d : ℕ) → (look_at s p d).code ≤ 56 → Took ◌⟹◌ ∎ (lex_at s p) (rest s (look_at s p d))
    none_at p d h = subst (λ u. Took ◌⟹◌ ∎ u (rest s (look_at s p d))) (rest_look s p d h) (took_nil (rest s (look_at s p d)))

    gone : (b b' c : Bool) → (to b b' c).code ≤ 56 → Took ◌⟹◌ ∎ (lex_at s a.next) (rest s (to b b' c))
    gone true b' true h = none_at a.next (a.depth + 1) h
    gone true b' false h = absurd (omega arith)
    gone false true c h = none_at a.next (a.depth - 1) h
    gone false false c h = none_at a.next a.depth h

    down : (b b' c : Bool) → left s (to b b' c) ≤ length s - a.next
    down true b' true = left_look s a.next (a.depth + 1)
    down true b' false = omega arith
    down false true c = left_look s a.next (a.depth - 1)
    down false false c = left_look s a.next a.depth

-- The refusal of what is seen.
stays : (s : List ℕ) (a : Look) (e : ℕ) (f : Symbols)
    → (a.code < 56 → (k : Symbols) → run a.depth (f ++ k) (seen a ▹ lex_at s a.next) ≡ Err (NotAdmitted a.at))
    → ((k : Symbols) → run a.depth (f ++ k) (ended a.at) ≡ Err (NotAdmitted a.at))
    → Reads e f s a (refusal a)
unfolding refusal refusal_of on on_by left
stays s a e f t n = go (leb a.code 56) refl
  where
    go : (b : Bool) → leb a.code 56 ≡ b → Reads e f s a (pick b (stop 4 a) a)
    go true p =
        let h = leb-true a.code 56 p in
        record {
          reads = by_look s a (λ o. (k : Symbols) → o (f ++ k) ≡ Err (NotAdmitted a.at)) t (λ _. n) (λ g. absurd (omega arith));
          falls = omega arith;
          took = λ g. absurd (omega arith);
        }
    go false p =
        let h = leb-false a.code 56 p in
        let z : left s a ≡ 0 = ap (λ b. pick b (suc (length s - a.next)) 0) (le-ltb a.code 56 (omega arith)) in
        record {
          reads = by_look s a (λ o. (k : Symbols) → o (f ++ k) ≡ o k) (λ g. absurd (omega arith)) (λ g. absurd (omega arith)) (λ g k. refl);
          falls = omega arith;
          took = λ g. absurd (omega arith);
        }

pub not_taken : (t : Terminal) {s : List ℕ} {a r : Look} → No (matches t) a.code → r ≡ refusal a → Reads 1 (t · ∎) s a r
unfolding seen run nullable_form at_end
not_taken t {s} {a} h e =
    subst (Reads 1 (t · ∎) s a) (sym e)
    (stays s a 1 (t · ∎) (λ l k. run_tok_no a.depth t k (seen a) (lex_at s a.next) (h l)) (λ k. refl))

-- A terminal that has one code.
abbrev pub Single : Terminal → ℕ → Type 0
Single t m = T (both (ltb m 56) (matches t (class_at m))) × T (up_to (λ k. either (eqb k m) (not (matches t (class_at k)))) 56)

pub tokened : (t : Terminal) (m : ℕ) → Single t m → {s : List ℕ} {a r : Look} → r ≡ expected s a m → Reads 1 (t · ∎) s a r
unfolding expected
tokened t m (y, n) {s} {a} {r} e =
    subst (Reads 1 (t · ∎) s a) (sym e)
    (by_test (Reads 1 (t · ∎) s a) (eqb a.code m) (advanced s a) (refusal a)
    (λ q. take t (at_code (matches t) m y (eqb-true a.code m q)) refl)
    (λ q. not_taken t (not_code (matches t) m n (eqb-false a.code m q)) refl))

-- Rules.
pub pass : (x : Nonterminal) {s : List ℕ} {a : Look} → nullable x ≡ true → No (starts x) a.code → Reads 0 (x ▸ ∎) s a a
unfolding seen
pass x {s} {a} n h =
    record {
      reads = by_look s a (λ o. (k : Symbols) → o (x ▸ k) ≡ o k) (λ l k. run_pass a.depth x k (seen a) (lex_at s a.next) n (h l))
          (λ _ k. run_pass_end a.depth x k a.at n) (λ _ k. refl);
      falls = omega arith;
      took = λ h. (h, took_rule (empty_form x n) (took_nil (rest s a)) (took_nil (rest s a)));
    }

pub not_begun : (x : Nonterminal) {s : List ℕ} {a r : Look} → nullable x ≡ false → No (starts x) a.code → r ≡ refusal a → Reads 1 (x ▸ ∎) s a r
unfolding seen
not_begun x {s} {a} n h e =
    subst (Reads 1 (x ▸ ∎) s a) (sym e)
    (stays s a 1 (x ▸ ∎) (λ l k. run_no a.depth x k (seen a) (lex_at s a.next) n (h l)) (λ k. run_no_end a.depth x k a.at n))

enters : {x : Nonterminal} {g : Symbols} (p : x ⟹ g) (s : List ℕ) (a : Look) (k : Symbols) → Yes (takes g) a.code → on s a (x ▸ k) ≡ on s a (g ++ k)
unfolding run seen
enters {x} {g} p s a k (l, h) =
    on_token s a l (x ▸ k)
    ∙ ap (λ o. next o (deeper a.depth (class_at a.code)) a.at (λ j i. run i j (lex_at s a.next))) (feed_enter p k (class_at a.code) h)
    ∙ sym (on_token s a l (g ++ k))

pub form : {x : Nonterminal} {g : Symbols} (p : x ⟹ g) {e : ℕ} {s : List ℕ} {a b : Look} → Yes (takes g) a.code → Reads e g s a b → Reads e (x ▸ ∎) s a b
form p {s} {a} {b} y m =
    record {
      reads = λ k. enters p s a k y ∙ m.reads k;
      falls = m.falls;
      took = λ h. let w = m.took h in (w.0, took_rule p w.1 (took_nil (rest s b)));
    }

pub only : {x : Nonterminal} {g : Symbols} (p : x ⟹ g) {e : ℕ} {s : List ℕ} {a b : Look} → choices x ≡ by p ∷ [] → nullable x ≡ false → nullable_form g ≡ false
    → Reads e g s a b → Reads e (x ▸ ∎) s a b
unfolding run nullable_form seen
only {x} {g} p {s} {a} {b} c n h m =
    record {
      reads = λ k. by_look s a (λ o. o (x ▸ k) ≡ o (g ++ k))
          (λ _. ap (λ o. next o (deeper a.depth (class_at a.code)) a.at (λ j i. run i j (lex_at s a.next))) (feed_only p k (class_at a.code) c n h))
          (λ _. ap (λ b. at_end (b && nullable_form k) a.at) n ∙ sym (ap (λ b. at_end b a.at) (nullable_append g k h)))
          (λ _. refl)
          ∙ m.reads k;
      falls = m.falls;
      took = λ h. let w = m.took h in (w.0, took_rule p w.1 (took_nil (rest s b)));
    }

-- Lists, read by a loop.
pub still : (x : Rule) {s : List ℕ} {a : Look} → Still x s a a
still x = record { same = λ k. refl; less = omega arith; wraps = λ h. (h, λ u w. w) }

pub again : {x : Rule} (g : Symbols) (p : paper x ⟹ (g ++ (paper x ▸ ∎))) {e : ℕ} {s : List ℕ} {a b c : Look} → Still x s a b → Yes (takes (g ++ (paper x ▸ ∎))) b.code
    → Reads e g s b c → Still x s a c
again {x} g p {s} {a} {b} z y m =
    record {
      same = λ k. z.same k ∙ enters p s b k y ∙ ap (on s b) (append_assoc g (paper x ▸ ∎) k) ∙ m.reads (paper x ▸ k);
      less = let u = z.less in let v = m.falls in omega arith;
      wraps = λ h.
          let y = m.took h in
          let q = z.wraps y.0 in
          (q.0, λ u w. q.1 u (took_rule p (took_then y.1 w) (took_nil u)));
    }

pub done : (x : Rule) {s : List ℕ} {a b : Look} → Still x s a b → nullable (paper x) ≡ true → No (starts (paper x)) b.code → Reads 0 (paper x ▸ ∎) s a b
done x {s} {a} {b} z n h =
    let m = pass (paper x) {s = s} {a = b} n h in
    record {
      reads = λ k. z.same k ∙ m.reads k;
      falls = let u = z.less in omega arith;
      took = λ h. let q = z.wraps h in let y = m.took h in (q.0, q.1 (rest s b) y.1);
    }

-- A reader that goes on from a token leaves less.
pub fell : {f : Symbols} {s : List ℕ} {a b : Look} → a.code < 56 → Reads 1 f s a b → left s b < left s a
fell {s} {a} h m = let x = left_token s a h in let y = m.falls in omega arith

-- Past a token less is left.
pub went_on : (m : ℕ) → T (ltb m 56) → (s : List ℕ) (a b : Look) → a.code ≡ m → b ≡ advanced s a → left s b < left s a
unfolding advanced left
went_on m t s a b h e =
    let l : a.code < 56 = rw h (ltb→lt m 56 t) in
    let x = left_token s a l in
    let y = down (eqb a.code 45) (eqb a.code 46) (ltb a.depth 16) in
    let z : left s b ≡ left s (advanced s a) = ap (left s) e in
    omega arith
  where
    down : (b b' c : Bool)
        → left s (pick b (pick c (look_at s a.next (a.depth + 1)) (stop 5 a)) (pick b' (look_at s a.next (a.depth - 1)) (look_at s a.next a.depth)))
        ≤ length s - a.next
    down true b' true = left_look s a.next (a.depth + 1)
    down true b' false = omega arith
    down false true c = left_look s a.next (a.depth - 1)
    down false false c = left_look s a.next a.depth
