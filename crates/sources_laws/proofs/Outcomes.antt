-- What stops the tokens of one text, and how they end with another text behind. Assumes nothing.
use Prim.Native.Nat.{ℕ, ◌+◌, ◌-◌, ◌≤◌, ◌<◌}
use mathlib.Core.List.{List, [], ◌∷◌, ◌++◌}
use mathlib.Core.Bool.{true}
use mathlib.Core.Path.{◌≡◌, refl, sym, ◌∙◌, subst}
use native.Mathlib.Omega.{arith}
use lib.ListN.{length, take, drop, length-append, length-drop}
use lib.Seq.{drop-append-le}
use lib.Dec.{leb, eqb}
use borrow.Author.Tests.{leb-true}
use Rattle.token.specs.Find.{both, byte}
use Rattle.token.specs.Bytes.{find_byte}
use Rattle.token.specs.Tokens.{bytes_between, step_at}
use Rattle.token.specs.Lexing.{lex_from}
use Rattle.token.specs.declared.Cursor.{Cursor}
use Rattle.token.specs.declared.Token.{Token}
use Rattle.token.specs.declared.Step.{Step}
use Rattle.token.specs.declared.Step.TheVariants.{Found, Refused, End}
use Rattle.token.proofs.Find.{by_test}
use Rattle.token.proofs.Bytes.{both_true, both_second}
use Rattle.token.proofs.Steps.{found_fits, bad_fits, lex_bad, lex_end}
use Rattle.locality.proofs.Onward.{onward}
use Rattle.sources.specs.Lines.{line_start, named, whole_to, line_by, line_of, hash_at, stop_at}
use Rattle.std.specs.Prelude.{Option, Some, None}
use Rattle.sources.specs.declared.Line.{Line}
use Rattle.sources.specs.declared.Stop.{Stop}
use Rattle.sources.specs.declared.Stop.TheVariants.{At, Line as AtLine}
use Rattle.sources.proofs.Stops.{stop_found, stop_refused, stop_end}
use Rattle.sources_laws.specs.Lexings.{EndsAs}
use Rattle.sources_laws.proofs.Feeds.{feed_next, end_skips}
use Rattle.sources_laws.proofs.Longer.{Parted, skips_longer}
use Rattle.sources_laws.proofs.Ends.{Run, stay, go, run_low, run_high, run_ends, skips_lex, ends_drop, ends_rest, run_longer}

-- ---- what stops

-- the tokens from p on come to a place, and there is the end, or a refusal
pub data Outcome (s : List ℕ) (p : ℕ) (x : Stop) : Type 0 where
  at_end : (last n : ℕ) → Run s last p → step_at s last ≡ End n → x ≡ At 0 (length s) → Outcome s p x
  at_bad : (last q : ℕ) → Run s last p → step_at s last ≡ Refused q → x ≡ hash_at s last q → Outcome s p x

before : (s : List ℕ) (p : ℕ) (t : Token) (c : Cursor) (x : Stop) → step_at s p ≡ Found t c → Outcome s c.at x → Outcome s p x
before s p t c x e (at_end l n r f g) = at_end l n (go p t c e r) f g
before s p t c x e (at_bad l q r f g) = at_bad l q (go p t c e r) f g

by_step : (s : List ℕ) (p : ℕ) → ((q : ℕ) → p < q → q ≤ length s → Outcome s q (stop_at s q)) → (r : Step) → step_at s p ≡ r → Outcome s p (stop_at s p)
by_step s p f (Found t c) e =
    let o = found_fits s p t c e in
    let l = o.long in
    before s p t c (stop_at s p) e (subst (Outcome s c.at) (sym (stop_found s p t c e)) (f c.at (omega arith) o.inside))
by_step s p f (Refused q) e = at_bad p q (stay p refl) e (stop_refused s p q e)
by_step s p f (End n) e = at_end p n (stay p refl) e (stop_end s p n e)

pub outcome : (s : List ℕ) (p : ℕ) → Outcome s p (stop_at s p)
outcome s = onward (length s) (λ (p : ℕ). Outcome s p (stop_at s p)) (λ p f. by_step s p f (step_at s p) refl)

-- ---- what a `#` and other bytes say

pub record LineSays (s : List ℕ) (last q : ℕ) (i : Line) : Type 0 where
  pub hash : i.hash ≡ q
  pub start : i.start ≡ line_start s q
  pub after : last ≤ line_start s q
  pub whole : whole_to (take (line_start s q) s) last ≡ true

abbrev pub HashSays : List ℕ → ℕ → ℕ → Stop → Type 0
HashSays s last q (At n r) = (r ≡ q) × (n ≡ 0 → ⊥)
HashSays s last q (AtLine i) = LineSays s last q i

by_name : (s : List ℕ) (last q e : ℕ) → last ≤ line_start s q → whole_to (take (line_start s q) s) last ≡ true → (x : Option (ℕ × ℕ)) →
    HashSays s last q (line_by s q (line_start s q) e x)
by_name s last q e h k (Some (f, t)) = record { hash = refl; start = refl; after = h; whole = k }
by_name s last q e h k None = (refl, λ z. absurd (omega arith))

line_says : (s : List ℕ) (last q : ℕ) → HashSays s last q (line_of s last q)
unfolding line_of
line_says s last q =
    by_test (HashSays s last q) (both (leb last (line_start s q)) (whole_to (take (line_start s q) s) last)) _ (At 29 q)
    (λ t.
    by_name s last q (find_byte 10 s q)
    (leb-true last (line_start s q) (both_true (leb last (line_start s q)) (whole_to (take (line_start s q) s) last) t))
    (both_second (leb last (line_start s q)) (whole_to (take (line_start s q) s) last) t)
    (named (bytes_between s (line_start s q) (find_byte 10 s q)) (q - line_start s q)))
    (λ _. (refl, λ z. absurd (omega arith)))

pub hash_says : (s : List ℕ) (last q : ℕ) → HashSays s last q (hash_at s last q)
unfolding hash_at
hash_says s last q =
    by_test (HashSays s last q) (eqb (byte s q) 35) (line_of s last q) (At 3 q) (λ _. line_says s last q) (λ _. (refl, λ z. absurd (omega arith)))

-- ---- a text by itself

refused_ends : (s : List ℕ) (p last q n : ℕ) → p ≤ length s → Run s last p → step_at s last ≡ Refused q → (n ≡ 0 → ⊥) → EndsAs n (q - p) (lex_from (drop p s) 0)
refused_ends s p last q n h r e k =
    let o = bad_fits s last q e in
    let l = run_low s last p r in
    let z : p + (q - p) ≡ q = omega arith in
    ends_drop s p n (q - p) h
    (run_ends s n (p + (q - p)) last p r (subst (EndsAs n (p + (q - p))) (sym (lex_bad s last q e)) (k, sym z)))

-- it ends as it stops
pub text_ends : (s : List ℕ) (p n q : ℕ) → p ≤ length s → stop_at s p ≡ At n q → EndsAs n (q - p) (lex_from (drop p s) 0)
text_ends s p n q h e = by (outcome s p)
  where
    by : Outcome s p (stop_at s p) → EndsAs n (q - p) (lex_from (drop p s) 0)
    by (at_end last m r f g) =
        let z : At n q ≡ At 0 (length s) = sym e ∙ g in
        let y : n ≡ 0 = cc in
        ends_drop s p n (q - p) h (run_ends s n (p + (q - p)) last p r (subst (EndsAs n (p + (q - p))) (sym (lex_end s last m f)) y))
    by (at_bad last r k f g) =
        let u : HashSays s last r (At n q) = subst (HashSays s last r) (sym g ∙ e) (hash_says s last r) in
        subst (λ (i : ℕ). EndsAs n (i - p) (lex_from (drop p s) 0)) (sym u.0) (refused_ends s p last r n h k f u.1)

-- an include line that is a fault is refused at its `#`
pub line_ends : (s : List ℕ) (p n : ℕ) (i : Line) → p ≤ length s → stop_at s p ≡ AtLine i → (n ≡ 0 → ⊥) → EndsAs n (i.hash - p) (lex_from (drop p s) 0)
line_ends s p n i h e k = by (outcome s p)
  where
    by : Outcome s p (stop_at s p) → EndsAs n (i.hash - p) (lex_from (drop p s) 0)
    by (at_end last m r f g) = absurd (let w : AtLine i ≡ At 0 (length s) = sym e ∙ g in let z : ◌≡◌ {A = ℕ} 0 1 = cc in omega arith)
    by (at_bad last r l f g) =
        let u : LineSays s last r i = subst (HashSays s last r) (sym g ∙ e) (hash_says s last r) in
        subst (λ (j : ℕ). EndsAs n (j - p) (lex_from (drop p s) 0)) (sym u.hash) (refused_ends s p last r n h l f k)

-- ---- a whole text, with an LF and another text behind it

seam : (s b : List ℕ) → byte (s ++ (10 ∷ b)) (length s) ≡ 10
seam [] b = refl
seam (x ∷ s) b = seam s b

pub feeds : (s b : List ℕ) → Parted s (10 ∷ b)
feeds s b r t e = seam s b

pub text_feeds : (s : List ℕ) (p q : ℕ) → p ≤ length s → stop_at s p ≡ At 0 q → (b : List ℕ) (n i : ℕ) → EndsAs n i (lex_from (10 ∷ b) 0) →
    EndsAs n (length (drop p s) + i) (lex_from (drop p s ++ (10 ∷ b)) 0)
text_feeds s p q h e b n i k = by (outcome s p)
  where
    by : Outcome s p (stop_at s p) → EndsAs n (length (drop p s) + i) (lex_from (drop p s ++ (10 ∷ b)) 0)
    by (at_end last m r f g) =
        let u = s ++ (10 ∷ b) in
        let l = length-append s (10 ∷ b) in
        let d = length-drop p s in
        let w : Run u last p = run_longer s (10 ∷ b) last p (feed_next s b) r in
        let hl : last ≤ length s = run_high s last p h r in
        let v : lex_from u last ≡ lex_from u (length s) = skips_lex u (length s) last (skips_longer s (10 ∷ b) (feeds s b) (length s) last (end_skips s last m hl f)) in
        let z : p + (length (drop p s) + i) ≡ length s + i = omega arith in
        subst (λ (x : List ℕ). EndsAs n (length (drop p s) + i) (lex_from x 0)) (drop-append-le p s (10 ∷ b) h)
        (ends_drop u p n (length (drop p s) + i) (omega arith)
        (run_ends u n (p + (length (drop p s) + i)) last p w
        (subst (EndsAs n (p + (length (drop p s) + i))) (sym v)
        (subst (λ (j : ℕ). EndsAs n j (lex_from u (length s))) (sym z) (ends_rest s (10 ∷ b) n i k)))))
    by (at_bad last r l f g) =
        let u : HashSays s last r (At 0 q) = subst (HashSays s last r) (sym g ∙ e) (hash_says s last r) in
        absurd (u.1 refl)
