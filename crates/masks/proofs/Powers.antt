-- The bits of powers of two. Assumes nothing.
use mathlib.Core.Path.{◌≡◌, ◌∙◌, ap}
use mathlib.Core.Bool.{true, false}
use Prim.Native.Nat.{ℕ, suc, ◌+◌, ◌*◌, ◌/◌, ◌%◌, ◌^◌, ◌-◌}
use native.Mathlib.Omega.{arith}
use native.Mathlib.Nat.{zero-div, div_self, div-eq_of_lt, mul-mod_left, pow-suc}
use lib.Pow.{pow_pos, pow-lt, pow-add, shl-shr}
use lib.Dec.{eqb}
use Rattle.masks.specs.Bits.{has}
use Rattle.masks.proofs.Reflections.{not_both, Order, less, same, more, order}

pub has_zero : (k : ℕ) → has 0 k ≡ false
unfolding has
has_zero k = ap (λ (x : ℕ). eqb (x % 2) 1) (zero-div (2 ^ k))

pub has_own : (k : ℕ) → has (2 ^ k) k ≡ true
unfolding has
has_own k = ap (λ (x : ℕ). eqb (x % 2) 1) (div_self (pow_pos k))

-- A power of two has no other bit.
pub has_only : (a b : ℕ) → has (2 ^ a) b ≡ true → a ≡ b
unfolding has
has_only a b e = go (order a b)
  where
    go : Order a b → a ≡ b
    go (less h) = absurd (not_both e (ap (λ (x : ℕ). eqb (x % 2) 1) (div-eq_of_lt (pow-lt h))))
    go (same q) = q
    go (more h) =
        let d = a - suc b in
        let q : a ≡ suc d + b = omega (arith, h) in
        let p : 2 ^ a ≡ 2 ^ d * 2 * 2 ^ b = ap (λ (x : ℕ). 2 ^ x) q ∙ pow-add 2 (suc d) b ∙ ap (λ (x : ℕ). x * 2 ^ b) (pow-suc 2 d) in
        absurd (not_both e (ap (λ (x : ℕ). eqb (x / 2 ^ b % 2) 1) p ∙ ap (λ (x : ℕ). eqb (x % 2) 1) (shl-shr (2 ^ d * 2) b) ∙ ap (λ (x : ℕ). eqb x 1) (mul-mod_left (2 ^ d) 2)))
