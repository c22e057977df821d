-- The laws of decimal digits. Assumes nothing.
use mathlib.Core.Path.{◌≡◌, sym, ◌∙◌, ap}
use mathlib.Core.List.{List, [], ◌∷◌, ◌++◌}
use mathlib.Core.Bool.{Bool, true, false}
use Prim.Native.Nat.{ℕ, zero, suc, ◌+◌, ◌/◌, ◌%◌, ◌^◌, ◌≤◌, ◌<◌}
use native.Mathlib.Omega.{arith}
use lib.Dec.{ltb}
use borrow.Author.Tests.{lt-ltb, le-ltb}
use Rattle.meaning.specs.Words.{choose}
use Rattle.meaning.specs.Normal.{digits_in, minus, decimal}
use Rattle.writing.specs.Wrote.{Wrote}
use Rattle.writing.proofs.Writes.{wrote_as, wrote_then}

-- More room for digits than is needed changes nothing.
digits_more : (k n : ℕ) → n < 10 ^ suc k → digits_in (suc (suc k)) n ≡ digits_in (suc k) n
unfolding digits_in choose
digits_more zero n h = rw (lt-ltb n 10 (omega arith))
digits_more (suc k) n h =
    ap (λ (t : List ℕ). choose (ltb n 10) (λ _. (48 + n) ∷ []) (λ _. t ++ ((48 + n % 10) ∷ []))) (digits_more k (n / 10) (omega arith))

digits_low : (n : ℕ) → n < 10 → (48 + n) ∷ [] ≡ digits_in 20 n
unfolding digits_in choose
digits_low n h = rw (lt-ltb n 10 h)

digits_next : (k n : ℕ) → 10 ≤ n → digits_in (suc k) n ≡ digits_in k (n / 10) ++ ((48 + n % 10) ∷ [])
unfolding digits_in choose
digits_next k n h = rw (le-ltb n 10 h)

digits_high : (n : ℕ) → n < 2 ^ 64 → 10 ≤ n → digits_in 20 (n / 10) ++ ((48 + n % 10) ∷ []) ≡ digits_in 20 n
digits_high n h k = ap (λ (t : List ℕ). t ++ ((48 + n % 10) ∷ [])) (digits_more 18 (n / 10) (omega arith)) ∙ sym (digits_next 19 n k)

module _ {l : List ℕ} {a : ℕ} {l' : List ℕ} {b : ℕ} where
  pub wrote_digit : (n : ℕ) → n < 10 → Wrote l a ((48 + n) ∷ []) l' b → Wrote l a (digits_in 20 n) l' b
  wrote_digit n h w = wrote_as (digits_low n h) w

  pub wrote_digits : {l₁ : List ℕ} {c : ℕ} (n : ℕ) → n < 2 ^ 64 → 10 ≤ n → Wrote l a (digits_in 20 (n / 10)) l₁ c → Wrote l₁ c ((48 + n % 10) ∷ []) l' b
      → Wrote l a (digits_in 20 n) l' b
  wrote_digits n h k u w = wrote_as (digits_high n h k) (wrote_then u w)

  pub wrote_negative : {l₁ : List ℕ} {c : ℕ} (q : Bool) (n : ℕ) → q ≡ true → Wrote l a (45 ∷ []) l₁ c → Wrote l₁ c (digits_in 20 n) l' b
      → Wrote l a (decimal (record { negative = q; amount = n })) l' b
  unfolding decimal minus
  wrote_negative q n e u w = wrote_as (rw e) (wrote_then u w)

  pub wrote_positive : (q : Bool) (n : ℕ) → q ≡ false → Wrote l a (digits_in 20 n) l' b → Wrote l a (decimal (record { negative = q; amount = n })) l' b
  unfolding decimal minus
  wrote_positive q n e w = wrote_as (rw e) w
