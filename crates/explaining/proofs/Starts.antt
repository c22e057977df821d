-- The laws of a line's start: a walk back from the place finds it.
-- Assumes nothing.
use Prim.Native.Nat.{ℕ, zero, suc, ◌+◌, ◌-◌, ◌<◌, ◌≤◌}
use mathlib.Core.Path.{◌≡◌, refl, ◌∙◌, ap, sym}
use mathlib.Core.Bool.{false}
use mathlib.Core.List.{List}
use mathlib.Core.Logic.{◌≢◌}
use native.Mathlib.Omega.{arith}
use borrow.Author.Tests.{eq-eqb, ne_eqb, eqb-true, eqb-false}
use native.Mathlib.Decide.{dec_lt}
use lib.Dec.{eqb}
use lib.ListN.{length, drop, length-drop}
use lib.Seq.{length-take-le}
use Rattle.token.specs.Find.{byte}
use Rattle.token.specs.Tokens.{bytes_between, step_at}
use Rattle.token.specs.declared.Token.{Token}
use Rattle.token.specs.declared.Cursor.{Cursor}
use Rattle.token.specs.declared.Step.TheVariants.{Found, Refused, End}
use Rattle.token.proofs.Find.{by_test}
use Rattle.explaining.specs.Characters.{characters}
use Rattle.explaining.specs.Places.{line_start, column_of, end_from, token_end}
use Rattle.explaining.proofs.Letters.{characters_most}

before : (q : ℕ) → suc q - 1 ≡ q
before q = omega arith

module _ (s : List ℕ) where
  pub start_here : (i : ℕ) → 0 < i → byte s (i - 1) ≡ 10 → line_start s i ≡ i
  unfolding line_start
  start_here zero h e = absurd (omega arith)
  start_here (suc q) h e = rw (eq-eqb (byte s q) 10 (ap (byte s) (sym (before q)) ∙ e))

  pub start_back : (i : ℕ) → 0 < i → (byte s (i - 1) ≡ 10 → ⊥) → line_start s i ≡ line_start s (i - 1)
  unfolding line_start
  start_back zero h e = absurd (omega arith)
  start_back (suc q) h e = rw (before q, ne_eqb (byte s q) 10 (λ k. e (ap (byte s) (before q) ∙ k)))

  pub start_none : (i : ℕ) → i ≤ 0 → line_start s i ≡ 0
  unfolding line_start
  start_none zero h = refl
  start_none (suc q) h = absurd (omega arith)

  pub start_low : (p : ℕ) → line_start s p ≤ p
  unfolding line_start
  start_low zero = omega arith
  start_low (suc q) =
      let ih = start_low q in
      by_test (λ (k : ℕ). k ≤ suc q) (eqb (byte s q) 10) (suc q) (line_start s q) (λ _. omega arith) (λ _. omega arith)

  -- it is 0 or stands after an LF
  pub start_after : (p : ℕ) → 0 < line_start s p → byte s (line_start s p - 1) ≡ 10
  unfolding line_start
  start_after zero = λ h. absurd (omega arith)
  start_after (suc q) =
      by_test (λ (k : ℕ). 0 < k → byte s (k - 1) ≡ 10) (eqb (byte s q) 10) (suc q) (line_start s q)
      (λ t _. ap (byte s) (before q) ∙ eqb-true (byte s q) 10 t)
      (λ _. start_after q)

  -- no LF stands between it and the place
  pub start_clear : (p i : ℕ) → line_start s p ≤ i → i < p → byte s i ≢ 10
  unfolding line_start
  start_clear zero i = λ _ h. absurd (omega arith)
  start_clear (suc q) i =
      by_test (λ (k : ℕ). k ≤ i → i < suc q → byte s i ≢ 10) (eqb (byte s q) 10) (suc q) (line_start s q)
      (λ _ l h. absurd (omega arith))
      (λ f l h. split (start_clear q i) f l h (dec_lt i q))
    where
      split : (line_start s q ≤ i → i < q → byte s i ≢ 10) → eqb (byte s q) 10 ≡ false → line_start s q ≤ i → i < suc q → Dec (i < q) → byte s i ≢ 10
      split r f l h (yes y) = r l y
      split r f l h (no n) =
          let e : i ≡ q = omega arith in
          λ k. eqb-false (byte s q) 10 f (ap (byte s) (sym e) ∙ k)

pub column_is : (s : List ℕ) (p a n : ℕ) → a ≡ line_start s p → n ≡ characters (bytes_between s a p) → n + 1 ≡ column_of s p
unfolding column_of
column_is s p a n e f = ap (◌+ 1) (f ∙ ap (λ (k : ℕ). characters (bytes_between s k p)) e)

pub column_most : (s : List ℕ) (p a : ℕ) → p ≤ length s → characters (bytes_between s a p) ≤ length s
column_most s p a h = omega (arith, characters_most (bytes_between s a p), length-take-le (p - a) (drop a s) (omega (arith, length-drop a s)))

-- the token at a place
module _ (s : List ℕ) (p : ℕ) where
  pub token_here : (t : Token) (c : Cursor) → step_at s p ≡ Found t c → t.at ≡ p → c.at ≡ token_end s p
  unfolding token_end end_from
  token_here t c e h = rw (e, eq-eqb t.at p h)

  pub token_later : (t : Token) (c : Cursor) → step_at s p ≡ Found t c → (t.at ≡ p → ⊥) → p + 1 ≡ token_end s p
  unfolding token_end end_from
  token_later t c e h = rw (e, ne_eqb t.at p h)

  pub token_bad : (q : ℕ) → step_at s p ≡ Refused q → p + 1 ≡ token_end s p
  unfolding token_end end_from
  token_bad q e = rw e

  pub token_none : (n : ℕ) → step_at s p ≡ End n → p + 1 ≡ token_end s p
  unfolding token_end end_from
  token_none n e = rw e
