-- What the stage says of the texts by which it is asked, and what the flags tell by it. Assumes nothing.
use Prim.Native.Nat.{ℕ, zero, suc, ◌+◌, ◌≤◌, ◌<◌}
use mathlib.Core.Path.{◌≡◌, refl, sym, ◌∙◌, ap, ap₂, subst}
use mathlib.Core.List.{List, [], ◌∷◌, ◌++◌, map, append-nil}
use mathlib.Core.Bool.{Bool, true, false, not, ◌&&◌, ◌||◌, false≢true}
use mathlib.Core.Logic.{◌⊎◌, inl, inr, ◌↔◌, ⊎_elim}
use native.Mathlib.Omega.{arith}
use native.Mathlib.Nat.{add-zero, eq-or-lt_of_le}
use native.Mathlib.Decide.{dec_le}
use lib.ListN.{length, get_or, set, replicate}
use lib.Seq.{get_or-set_same, get_or-set_other, ext_get_or}
use lib.Dec.{T, eqb, ltb, eqb→eq}
use borrow.Author.Tests.{ltb-true}
use Rattle.token.specs.Find.{first_of, find}
use Rattle.token.specs.Bytes.{class_of, is_word_byte, word_end, find_byte, pair_at, find_close, is_dotted, find_mark, is_signed}
use Rattle.token.specs.Gaps.{comment_at, gap_of, gap_at, skip_n, skip}
use Rattle.token.specs.Words.{same as sameWord, code_in, code_of}
use Rattle.token.specs.Numbers.{digit_of, value_after, at_most, digits_after, numeral}
use Rattle.token.specs.Floats.{some_digits, digits_behind, mantissa_of, power_of, power_at, scale_of}
use Rattle.token.specs.Tokens.{found, word_at, limit_of, is_negative, whole_at, float_by, float_at, number_by, number_at, string_at, dots_at, token_of as tokenOfClass, token_at, step_at}
use Rattle.token.specs.Lexing.{Lexed, more, ended, refused, lex_n, lex_from, Divides as Wholly}
use Rattle.token.specs.declared.Token.{Token as Lexeme}
use Rattle.token.proofs.Bytes.{T_true}
use Rattle.token.proofs.Sequences.{after_all}
use Rattle.token.proofs.Tables.{up_to, below}
use Rattle.locality.proofs.Shift.{moved, moved_all}
use Rattle.locality.proofs.Pieces.{divides_after, divides_moved}
use Rattle.grammar.specs.Grammar.{Terminal, Token, Begins, Derivation, matches, name, number, string, float, kind, type, integer, the, sg, OIL-VERSION, IMPLEMENTATION, CPU, STRING, BOOLEAN, ENUM, FLOAT, TRUE, FALSE, AUTO, NO-DEFAULT, WITH-AUTO, lbrace, rbrace, lsquare, rsquare, equals, semicolon, colon, comma, dots}
use Rattle.grammar.specs.Terminals.{sign_of, class_of as classOfToken, token_of, tokens_in, tokens}
use Rattle.grammar.specs.Stage.{Divides, Shallow, Answers, passes, no_token, not_admitted, ends_early, too_deep}
use Rattle.grammar.specs.Answered.{Answer}
use Rattle.std.specs.Prelude.{Ok, Err}
use Rattle.grammar.specs.declared.Refusal.TheVariants.{NotAdmitted}
use Rattle.expecting.specs.Expected.{Expects, until, Expected}
use Rattle.grammar.proofs.Answering.{answer_to, answer_to_lem}
use Rattle.expecting.specs.Flags.{index, flag, RefusedAt, Tells, TellsDecided}
use Rattle.expecting.specs.Firsts.{same}
use Rattle.expecting.specs.Samples.{sample_of, asking, Room, AdmitsLast, Asks, as_name, as_itself}
use Rattle.expecting.proofs.Firsts.{terminals, decoded, index_low, class_of_lem, class_matches, same_is, or_true}
use Rattle.expecting.proofs.Exact.{goes_on, by_terminal, one_terminal}
use Rattle.expecting.proofs.Fronts.{front_lex}
use Rattle.expecting.proofs.Verdicts.{refuses, refuses_by}
use Rattle.expecting.proofs.Before.{Before, before}

-- Tokens one after the other ---------------------------------------------------------------------------------------------------------------------

shifted : ℕ → Token → Token
shifted d t = record { class = t.class; place = d + t.place; length = t.length }

tokens_moved : (d : ℕ) (l : Lexed) → tokens_in (moved_all d l) ≡ map (shifted d) (tokens_in l)
unfolding tokens_in moved_all moved token_of shifted
tokens_moved d (more t l) = ap (shifted d (token_of t) ∷◌) (tokens_moved d l)
tokens_moved d (ended n) = refl
tokens_moved d (refused p) = refl

tokens_after : (ls : List Lexeme) (l : Lexed) → tokens_in (after_all ls l) ≡ map token_of ls ++ tokens_in l
unfolding tokens_in after_all
tokens_after [] l = refl
tokens_after (t ∷ ls) l = ap (token_of t ∷◌) (tokens_after ls l)

-- The samples ------------------------------------------------------------------------------------------------------------------------------------

-- a terminal's sample is one token of its class
record One (a : Terminal) : Type 0 where
  size : ℕ
  token_is : tokens (sample_of (index a)) ≡ record { class = class_of_lem a; place = 0; length = size } ∷ []
  whole : Divides (sample_of (index a))

one : (a : Terminal) → One a
unfolding index sample_of class_of_lem tokens tokens_in classOfToken token_of sign_of lex_from lex_n step_at skip skip_n gap_at gap_of comment_at find_byte find_close pair_at find first_of class_of is_word_byte word_end is_dotted find_mark is_signed code_of code_in sameWord digit_of value_after at_most digits_after numeral some_digits digits_behind mantissa_of power_of power_at scale_of found word_at limit_of is_negative whole_at float_by float_at number_by number_at string_at dots_at tokenOfClass token_at
one name = record { size = 1; token_is = refl; whole = tt }
one kind = record { size = 4; token_is = refl; whole = tt }
one type = record { size = 9; token_is = refl; whole = tt }
one integer = record { size = 6; token_is = refl; whole = tt }
one (the OIL-VERSION) = record { size = 11; token_is = refl; whole = tt }
one (the IMPLEMENTATION) = record { size = 14; token_is = refl; whole = tt }
one (the CPU) = record { size = 3; token_is = refl; whole = tt }
one (the STRING) = record { size = 6; token_is = refl; whole = tt }
one (the BOOLEAN) = record { size = 7; token_is = refl; whole = tt }
one (the ENUM) = record { size = 4; token_is = refl; whole = tt }
one (the FLOAT) = record { size = 5; token_is = refl; whole = tt }
one number = record { size = 1; token_is = refl; whole = tt }
one string = record { size = 2; token_is = refl; whole = tt }
one float = record { size = 3; token_is = refl; whole = tt }
one (the TRUE) = record { size = 4; token_is = refl; whole = tt }
one (the FALSE) = record { size = 5; token_is = refl; whole = tt }
one (the AUTO) = record { size = 4; token_is = refl; whole = tt }
one (the NO-DEFAULT) = record { size = 10; token_is = refl; whole = tt }
one (the WITH-AUTO) = record { size = 9; token_is = refl; whole = tt }
one (sg lbrace) = record { size = 1; token_is = refl; whole = tt }
one (sg rbrace) = record { size = 1; token_is = refl; whole = tt }
one (sg lsquare) = record { size = 1; token_is = refl; whole = tt }
one (sg rsquare) = record { size = 1; token_is = refl; whole = tt }
one (sg equals) = record { size = 1; token_is = refl; whole = tt }
one (sg semicolon) = record { size = 1; token_is = refl; whole = tt }
one (sg colon) = record { size = 1; token_is = refl; whole = tt }
one (sg comma) = record { size = 1; token_is = refl; whole = tt }
one (sg dots) = record { size = 2; token_is = refl; whole = tt }

-- the last sample is none
none_lexed : lex_from (sample_of 28) 0 ≡ ended 16
unfolding sample_of lex_from lex_n step_at skip skip_n gap_at gap_of comment_at find_byte find_close pair_at find first_of class_of token_at
none_lexed = refl

-- Which terminals take a sample ------------------------------------------------------------------------------------------------------------------

-- b does not take the sample of a, or is a, or is name and the sample of a may be a name's
unfoldable test : Terminal → Terminal → Bool
unfolding class_of_lem matches same index
test a b = not (matches b (class_of_lem a)) || (same b a || (same b name && ltb (index a) 11))

pairs : (a b : Terminal) → T (test a b)
unfolding test
pairs a b =
    subst (λ (x : Terminal). T (test x b)) (decoded a)
    (subst (λ (y : Terminal). T (test (get_or terminals (index a) name) y)) (decoded b)
    (below (λ i. test (get_or terminals (index a) name) (get_or terminals i name)) 28
    (below (λ j. up_to (λ i. test (get_or terminals j name) (get_or terminals i name)) 28) 28 tt (index a) (index_low a)) (index b) (index_low b)))

and_both : (x y : Bool) → (x && y) ≡ true → (x ≡ true) × (y ≡ true)
and_both true true e = (refl, refl)
and_both true false e = absurd (false≢true e)
and_both false y e = absurd (false≢true e)

taken_by : (a b : Terminal) → matches b (class_of_lem a) ≡ true → (b ≡ a) ⊎ ((b ≡ name) × (index a < 11))
unfolding test
taken_by a b m = first (or_true (not (matches b (class_of_lem a))) (same b a || (same b name && ltb (index a) 11)) (T_true (pairs a b)))
  where
    second : (same b a ≡ true) ⊎ ((same b name && ltb (index a) 11) ≡ true) → (b ≡ a) ⊎ ((b ≡ name) × (index a < 11))
    second (inl e) = inl (same_is b a e)
    second (inr e) = let z = and_both (same b name) (ltb (index a) 11) e in inr (same_is b name z.0, ltb-true (index a) 11 z.1)

    first : (not (matches b (class_of_lem a)) ≡ true) ⊎ ((same b a || (same b name && ltb (index a) 11)) ≡ true) → (b ≡ a) ⊎ ((b ≡ name) × (index a < 11))
    first (inl e) = absurd (false≢true (sym (ap not m) ∙ e))
    first (inr e) = second (or_true (same b a) (same b name && ltb (index a) 11) e)

-- the first eleven samples may be a name's
may_name : (a : Terminal) → index a < 11 → matches name (class_of_lem a) ≡ true
unfolding class_of_lem matches
may_name a h =
    T_true (subst (λ (x : Terminal). T (matches name (class_of_lem x))) (decoded a) (below (λ i. matches name (class_of_lem (get_or terminals i name))) 11 tt (index a) h))

-- The stage's answers ----------------------------------------------------------------------------------------------------------------------------

passes_of : {s : List ℕ} {a : Answer} → a ≡ Ok tt → Answers s a → Derivation (tokens s)
passes_of e (passes w h d) = d
passes_of e (no_token n w h b) = absurd (let z : ◌≡◌ {A = ℕ} 0 1 = cc in omega arith)
passes_of e (not_admitted l t r q h b n) = absurd (let z : ◌≡◌ {A = ℕ} 0 1 = cc in omega arith)
passes_of e (ends_early w h b n) = absurd (let z : ◌≡◌ {A = ℕ} 0 1 = cc in omega arith)
passes_of e (too_deep l t r q h b m o) = absurd (let z : ◌≡◌ {A = ℕ} 0 1 = cc in omega arith)

module _ {s : List ℕ} {p : ℕ} (b : Before s p) where
  asked : (i : ℕ) → lex_from (asking s p i) 0 ≡ after_all b.lexemes (moved_all (p + 1) (lex_from (sample_of i) 0))
  unfolding asking
  asked i = front_lex s (sample_of i) p b.inside b.from_here b.lexemes b.run b.gap

  asked_tokens : (i : ℕ) → tokens (asking s p i) ≡ until p (tokens s) ++ map (shifted (p + 1)) (tokens (sample_of i))
  unfolding tokens
  asked_tokens i =
      ap tokens_in (asked i) ∙ tokens_after b.lexemes (moved_all (p + 1) (lex_from (sample_of i) 0))
      ∙ ap₂ ◌++◌ b.are (tokens_moved (p + 1) (lex_from (sample_of i) 0))

  asked_wholly : (i : ℕ) → Divides (sample_of i) → Divides (asking s p i)
  asked_wholly i d =
      subst Wholly (sym (asked i))
      (divides_after b.lexemes (moved_all (p + 1) (lex_from (sample_of i) 0)) (divides_moved (p + 1) (lex_from (sample_of i) 0) d))

  -- the sample's token after the place
  abbrev at_place : Terminal → Token
  at_place a = record { class = class_of_lem a; place = p + 1 + 0; length = (one a).size }

  goes : (a : Terminal) {r : Bool} → AdmitsLast (asking s p (index a)) (p + 1) r → (r ≡ true) ↔ Begins (until p (tokens s) ++ (at_place a ∷ []))
  unfolding shifted
  goes a x =
      x.exactly (until p (tokens s)) (at_place a) (asked_wholly (index a) (one a).whole)
      (asked_tokens (index a) ∙ ap (λ (l : List Token). until p (tokens s) ++ map (shifted (p + 1)) l) (one a).token_is) (add-zero (p + 1)) b.shallow b.begins

  -- a name's sample is a name's alone
  pub name_told : {r : Bool} → AdmitsLast (asking s p 0) (p + 1) r → (r ≡ true) ↔ Expected s p name
  unfolding index
  name_told x =
      let l = until p (tokens s) in
      let g = goes name x in
      ((λ e. let y = by_terminal l (at_place name) (g.0 e) in only (taken_by name y.0 y.1) y.2), (λ y. g.1 (goes_on l name (at_place name) (class_matches name) y)))
    where
      only : {c : Terminal} {A : Type 0} → (c ≡ name) ⊎ ((c ≡ name) × A) → Expects (until p (tokens s)) c → Expects (until p (tokens s)) name
      only (inl e) y = subst (Expects (until p (tokens s))) e y
      only (inr e) y = subst (Expects (until p (tokens s))) e.0 y

  -- any other's may be a name's too
  pub told : {n r : Bool} (a : Terminal) → (a ≡ name → ⊥) → (n ≡ true) ↔ Expected s p name → Asks s p (index a) n r → (r ≡ true) ↔ Expected s p a
  told a f g (as_name e h) =
      ((λ z. absurd (false≢true z)), (λ y. absurd (f (one_terminal (until p (tokens s)) a name (class_of_lem a) (class_matches a) (may_name a h) y (g.0 e)))))
  told a f g (as_itself e x) =
      let l = until p (tokens s) in
      let q = goes a x in
      ((λ z. let y = by_terminal l (at_place a) (q.0 z) in by (taken_by a y.0 y.1) y.2), (λ y. q.1 (goes_on l a (at_place a) (class_matches a) y)))
    where
      by : {c : Terminal} → (c ≡ a) ⊎ ((c ≡ name) × (index a < 11)) → Expects (until p (tokens s)) c → Expects (until p (tokens s)) a
      by (inl e') y = subst (Expects (until p (tokens s))) e' y
      by (inr e') y = absurd (e (g.1 (subst (Expects (until p (tokens s))) e'.0 y)) e'.1)

  -- no sample: the text's end
  pub end_told : {r : Bool} → (r ≡ true) ↔ Answers (asking s p 28) (Ok tt) → (r ≡ true) ↔ Derivation (until p (tokens s))
  unfolding tokens tokens_in
  end_told g =
      let q : tokens (asking s p 28) ≡ until p (tokens s) =
      asked_tokens 28 ∙ ap (λ (x : Lexed). until p (tokens s) ++ map (shifted (p + 1)) (tokens_in x)) none_lexed ∙ append-nil (until p (tokens s)) in (
        (λ e. subst Derivation q (passes_of refl (g.0 e))),
        (λ d. g.1 (passes (asked_wholly 28 (subst Wholly (sym none_lexed) tt)) (subst Shallow (sym q) b.shallow) (subst Derivation (sym q) d))),
      )

-- The flags --------------------------------------------------------------------------------------------------------------------------------------

-- those of the terminals below i are told
pub record Told (s : List ℕ) (p : ℕ) (f : List Bool) (i : ℕ) : Type 0 where
  pub each : (a : Terminal) → index a < i → (flag f (index a) ≡ true) ↔ Expected s p a

as_flag : {b c : Bool} {A : Type 0} → b ≡ c → (c ≡ true) ↔ A → (b ≡ true) ↔ A
as_flag e g = ((λ z. g.0 (sym e ∙ z)), (λ y. e ∙ g.1 y))

index_name : (a : Terminal) → index a < 1 → a ≡ name
unfolding index
index_name a h =
    let e : index a ≡ 0 = omega arith in sym (decoded a) ∙ ap (λ (n : ℕ). get_or terminals n name) e

no_name : (a : Terminal) → 1 ≤ index a → a ≡ name → ⊥
unfolding index
no_name a h z = let y : index a ≡ 0 = ap index z in omega arith

pub told_first : {s : List ℕ} {p : ℕ} (f : List Bool) {v : Bool} → 0 < length f → Answers s (Err (NotAdmitted p)) → AdmitsLast (asking s p 0) (p + 1) v → Told s p (set f 0 v) 1
unfolding index
told_first {s} {p} f {v} h e x =
    record {
      each = λ a k.
          subst (λ (c : Terminal). (flag (set f 0 v) (index c) ≡ true) ↔ Expected s p c) (sym (index_name a k)) (as_flag (get_or-set_same f 0 v false h) (name_told (before s p e) x));
    }

pub told_more : {s : List ℕ} {p i : ℕ} {f : List Bool} {n v : Bool} → i < length f → 1 ≤ i → Answers s (Err (NotAdmitted p)) → AdmitsLast (asking s p 0) (p + 1) n
    → Asks s p i n v → Told s p f i → Told s p (set f i v) (i + 1)
told_more {s} {p} {i} {f} {n} {v} h k e w x t =
    record {
      each = λ a l.
          ⊎_elim
          (λ (q : index a ≡ i).
          as_flag (ap (flag (set f i v)) q ∙ get_or-set_same f i v false h)
          (told (before s p e) a (no_name a (omega arith)) (name_told (before s p e) w) (subst (λ (j : ℕ). Asks s p j n v) (sym q) x)))
          (λ (q : index a < i). as_flag (get_or-set_other f i (index a) v false (λ z. omega arith)) (t.each a q))
          (eq-or-lt_of_le (let z : index a ≤ i = omega arith in z));
    }

pub tells_all : {s : List ℕ} {p i : ℕ} {f : List Bool} {v : Bool} → 28 < length f → 28 ≤ i → RefusedAt s p → Told s p f i
    → (v ≡ true) ↔ Answers (asking s p 28) (Ok tt) → Tells s p (set f 28 v)
tells_all {s} {p} {i} {f} {v} h k e t g =
    record {
      terminal = λ _ a. let l = index_low a in as_flag (get_or-set_other f 28 (index a) v false (λ z. omega arith)) (t.each a (omega arith));
      end = λ _. as_flag (get_or-set_same f 28 v false h) (end_told (before s p e.1) g);
      elsewhere = λ z. absurd (z e);
    }

none_set : (n i : ℕ) → flag (replicate n false) i ≡ false
none_set zero i = refl
none_set (suc n) zero = refl
none_set (suc n) (suc i) = none_set n i

pub tells_none : (s : List ℕ) (p : ℕ) → (RefusedAt s p → ⊥) → Tells s p (replicate 29 false)
tells_none s p z =
    record { terminal = λ e a. absurd (z e); end = λ e. absurd (z e); elsewhere = λ _ i. none_set 29 i }

-- The flags are decided --------------------------------------------------------------------------------------------------------------------------

answers_dec : (s : List ℕ) (p : ℕ) → Dec (Answers s (Err (NotAdmitted p)))
answers_dec s p = by (refuses (answer_to s) p) (refuses_by s p (answer_to_lem s) (refuses (answer_to s) p) (answer_to s) refl refl)
  where
    by : (b : Bool) → (b ≡ true) ↔ Answers s (Err (NotAdmitted p)) → Dec (Answers s (Err (NotAdmitted p)))
    by true g = yes (g.0 refl)
    by false g = no (λ x. false≢true (g.1 x))

refused_dec : (s : List ℕ) (p : ℕ) → Dec (RefusedAt s p)
refused_dec s p = by (dec_le (length s) 65535) (answers_dec s p)
  where
    by : Dec (length s ≤ 65535) → Dec (Answers s (Err (NotAdmitted p))) → Dec (RefusedAt s p)
    by (yes h) (yes x) = yes (h, x)
    by (yes h) (no f) = no (λ e. f e.1)
    by (no f) d = no (λ e. f e.0)

same_flags : {A : Type 0} (b c : Bool) → (b ≡ true) ↔ A → (c ≡ true) ↔ A → b ≡ c
same_flags true true g h = refl
same_flags true false g h = absurd (false≢true (h.1 (g.0 refl)))
same_flags false true g h = absurd (false≢true (g.1 (h.0 refl)))
same_flags false false g h = refl

index_of : (i : ℕ) → i < 28 → index (get_or terminals i name) ≡ i
unfolding index
index_of i h = eqb→eq (index (get_or terminals i name)) i (below (λ n. eqb (index (get_or terminals n name)) n) 28 tt i h)

pub tells_decided : TellsDecided
tells_decided s p r q m n x y = ext_get_or false r q (m ∙ sym n) (λ i h. by (refused_dec s p) i (omega arith))
  where
    by : Dec (RefusedAt s p) → (i : ℕ) → i < 29 → flag r i ≡ flag q i
    by (no z) i h = x.elsewhere z i ∙ sym (y.elsewhere z i)
    by (yes e) i h =
        ⊎_elim (λ (k : i ≡ 28). ap (flag r) k ∙ same_flags (flag r 28) (flag q 28) (x.end e) (y.end e) ∙ sym (ap (flag q) k))
        (λ (k : i < 28).
        let a = get_or terminals i name in
        let j = index_of i k in
        sym (ap (flag r) j) ∙ same_flags (flag r (index a)) (flag q (index a)) (x.terminal e a) (y.terminal e a) ∙ ap (flag q) j)
        (eq-or-lt_of_le (let z : i ≤ 28 = omega arith in z))

-- Room to ask in ---------------------------------------------------------------------------------------------------------------------------------

pub room_of : (s : List ℕ) (p n : ℕ) → RefusedAt s p → n ≡ 65552 → Room s p 28 n
room_of s p n e q =
    let h = e.0 in
    let k = (before s p e.1).inside in
    (k, omega arith, omega arith)
