-- The laws of comparing amounts of the form m * 10 ^ k.
-- Assumes nothing.
use Prim.Native.Nat.{ℕ, suc, ◌+◌, ◌-◌, ◌*◌, ◌/◌, ◌^◌, ◌≤◌, ◌<◌}
use mathlib.Core.Path.{◌≡◌, refl, sym, ◌∙◌, ap}
use mathlib.Core.Bool.{Bool, true, false, not}
use native.Mathlib.Omega.{arith}
use native.Mathlib.Nat.{mul_assoc, pow-suc, mul-le-mul_right, le_of_mul-le-mul_right, le-div_iff_mul-le, one-le-pow, zero-lt-suc}
use lib.Dec.{leb}
use lib.Pow.{pow-add}
use borrow.Author.Tests.{le-leb, lt-leb, leb-true, leb-false}

-- two comparisons that hold together have the same answer
same_answer : (a b c d : ℕ) → (a ≤ b → c ≤ d) → (c ≤ d → a ≤ b) → leb a b ≡ leb c d
same_answer a b c d f g = by (leb c d) refl
  where
    by : (x : Bool) → leb c d ≡ x → leb a b ≡ leb c d
    by true e = le-leb a b (g (leb-true c d e)) ∙ sym e
    by false e = other (leb a b) refl
      where
        other : (y : Bool) → leb a b ≡ y → leb a b ≡ leb c d
        other true q = absurd (let l = leb-false c d e in let h = f (leb-true a b q) in omega arith)
        other false q = q ∙ sym e

-- a power of ten less on one side is a division by ten on the other
pub power_less : (m k n : ℕ) → 0 < k → leb (m * 10 ^ k) n ≡ leb (m * 10 ^ (k - 1)) (n / 10)
power_less m k n h =
    let e : k ≡ suc (k - 1) = omega arith in
    let q : m * 10 ^ k ≡ (m * 10 ^ (k - 1)) * 10 =
    ap (λ (j : ℕ). m * 10 ^ j) e ∙ ap (λ (x : ℕ). m * x) (pow-suc 10 (k - 1)) ∙ sym (mul_assoc m (10 ^ (k - 1)) 10) in
    ap (λ (x : ℕ). leb x n) q
    ∙ same_answer (m * 10 ^ (k - 1) * 10) n (m * 10 ^ (k - 1)) (n / 10)
    (λ l. (le-div_iff_mul-le (zero-lt-suc 9)).1 l)
    (λ l. (le-div_iff_mul-le (zero-lt-suc 9)).0 l)

-- the power that both sides have counts for nothing
module _ (m n k l : ℕ) where
  pub power_left : l ≤ k → leb (m * 10 ^ (k - l)) n ≡ leb (m * 10 ^ k) (n * 10 ^ l)
  power_left h =
      let e : k - l + l ≡ k = omega arith in
      let q : m * 10 ^ (k - l) * 10 ^ l ≡ m * 10 ^ k =
      mul_assoc m (10 ^ (k - l)) (10 ^ l) ∙ ap (λ (x : ℕ). m * x) (sym (pow-add 10 (k - l) l)) ∙ ap (λ (j : ℕ). m * 10 ^ j) e in
      same_answer (m * 10 ^ (k - l)) n (m * 10 ^ (k - l) * 10 ^ l) (n * 10 ^ l)
      (λ i. mul-le-mul_right (10 ^ l) i)
      (λ i. le_of_mul-le-mul_right i (one-le-pow l 10 (zero-lt-suc 9)))
      ∙ ap (λ (x : ℕ). leb x (n * 10 ^ l)) q

module _ (m k n l : ℕ) (h : 0 < m) (i : k < l) where
  -- compared with both divided by 10 ^ k
  divided : leb m (n * 10 ^ (l - k)) ≡ leb (m * 10 ^ k) (n * 10 ^ l)
  divided =
      let e : l - k + k ≡ l = omega arith in
      let q : n * 10 ^ (l - k) * 10 ^ k ≡ n * 10 ^ l =
      mul_assoc n (10 ^ (l - k)) (10 ^ k) ∙ ap (λ (x : ℕ). n * x) (sym (pow-add 10 (l - k) k)) ∙ ap (λ (j : ℕ). n * 10 ^ j) e in
      same_answer m (n * 10 ^ (l - k)) (m * 10 ^ k) (n * 10 ^ (l - k) * 10 ^ k)
      (λ j. mul-le-mul_right (10 ^ k) j)
      (λ j. le_of_mul-le-mul_right j (one-le-pow k 10 (zero-lt-suc 9)))
      ∙ ap (λ (x : ℕ). leb (m * 10 ^ k) x) q

  above : leb (n * 10 ^ (l - k)) (m - 1) ≡ true → leb (m * 10 ^ k) (n * 10 ^ l) ≡ false
  above t = let z = leb-true (n * 10 ^ (l - k)) (m - 1) t in sym divided ∙ lt-leb m (n * 10 ^ (l - k)) (omega arith)

  not_more : leb (n * 10 ^ (l - k)) (m - 1) ≡ false → leb (m * 10 ^ k) (n * 10 ^ l) ≡ true
  not_more t = let z = leb-false (n * 10 ^ (l - k)) (m - 1) t in sym divided ∙ le-leb m (n * 10 ^ (l - k)) (omega arith)

  -- one side is at most the other unless the other is less
  pub other_way : (r : Bool) → r ≡ leb (n * 10 ^ (l - k)) (m - 1) → not r ≡ leb (m * 10 ^ k) (n * 10 ^ l)
  other_way true e = sym (above (sym e))
  other_way false e = sym (not_more (sym e))
