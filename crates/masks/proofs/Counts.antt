-- The library's counts of bits are what the specification asks. Assumes nothing.
use mathlib.Core.Path.{◌≡◌, refl, sym, ◌∙◌, ap}
use mathlib.Core.Bool.{false, not, false≢true}
use Prim.Native.Nat.{ℕ, zero, suc, ◌+◌, ◌*◌, ◌/◌, ◌%◌, ◌-◌, ◌<◌, ◌≤◌, ◌^◌}
use native.Mathlib.Omega.{arith}
use native.Mathlib.Decide.{dec_lt}
use native.Mathlib.Nat.{pow-suc}
use lib.Dec.{eqb}
use lib.Count.{ones, ones_in, ones_step, ones_cat, count_trailing_zeros}
use lib.Pow.{pow_mono, pow_pos}
use borrow.Author.Tests.{eq-eqb, ne_eqb}
use Rattle.std.proofs.lemmas.Nat.Bits.{bit_at-trailing_ones, bit_at_ones}
use Rattle.std.specs.Int.{is_power_of_two, trailing_ones, bit_at, w64}
use Rattle.token.specs.Find.{either, find}
use Rattle.masks.specs.Bits.{has, some_below, single}
use Rattle.token.proofs.Find.{find_high, find_holds, find_before}

-- A number that is not 0 has a digit that is set.
ones_there : (k n : ℕ) → n < 2 ^ k → 0 < n → 0 < ones n
ones_there zero n h p = absurd (omega (arith, h, p))
ones_there (suc k) n h p = by (dec_lt 0 (n % 2)) (λ q r. ones_there k (n / 2) q r)
  where
    by : Dec (0 < n % 2) → (n / 2 < 2 ^ k → 0 < n / 2 → 0 < ones (n / 2)) → 0 < ones n
    by (yes l) i = let e = ones_step n in omega (arith, e, l)
    by (no l) i =
        let s : 2 ^ suc k ≡ 2 ^ k * 2 = pow-suc 2 k in
        let q : n / 2 < 2 ^ k = omega (arith, h, s) in
        let r : 0 < n / 2 = omega (arith, l, p) in
        let e = ones_step n in
        let z = i q r in omega (arith, e, z)

-- No power below 2 ^ n is a number from there on.
none_below : (k n m : ℕ) → k ≤ n → 2 ^ n ≤ m → some_below k (λ j. eqb m (2 ^ j)) ≡ false
unfolding some_below
none_below zero n m h p = refl
none_below (suc k) n m h p =
    let q : 2 ^ suc k ≤ 2 ^ n = pow_mono h in
    let s : 2 ^ suc k ≡ 2 ^ k * 2 = pow-suc 2 k in
    let u : 0 < 2 ^ k = pow_pos k in
    rw (ne_eqb m (2 ^ k) (λ e. omega (arith, e, p, q, s, u))) (none_below k n m (omega arith) p)

single_below : (k m : ℕ) → m < 2 ^ k → some_below k (λ j. eqb m (2 ^ j)) ≡ eqb (ones m) 1
unfolding some_below ones ones_in
single_below zero m h = let e : m ≡ 0 = omega (arith, h) in rw e refl
single_below (suc k) m h = by (dec_lt m (2 ^ k)) (dec_lt (2 ^ k) m) (λ l. single_below k m l)
  where
    rest : ℕ
    rest = m - 2 ^ k

    counted : 2 ^ k ≤ m → ones m ≡ 1 + ones (m - 2 ^ k)
    counted l =
        let s : 2 ^ suc k ≡ 2 ^ k * 2 = pow-suc 2 k in
        let e : m ≡ 1 * 2 ^ k + (m - 2 ^ k) = omega (arith, l) in
        ap ones e ∙ ones_cat k 1 (m - 2 ^ k) (omega (arith, h, s))

    by : Dec (m < 2 ^ k) → Dec (2 ^ k < m) → (m < 2 ^ k → some_below k (λ j. eqb m (2 ^ j)) ≡ eqb (ones m) 1)
        → either (eqb m (2 ^ k)) (some_below k (λ j. eqb m (2 ^ j))) ≡ eqb (ones m) 1
    by (yes l) d i = rw (ne_eqb m (2 ^ k) (λ e. omega (arith, l, e))) (i l)
    by (no l) (yes g) i =
        let s : 2 ^ suc k ≡ 2 ^ k * 2 = pow-suc 2 k in
        let r = ones_there k (m - 2 ^ k) (omega (arith, h, s)) (omega (arith, g)) in
        let c = counted (omega (arith, g)) in
        rw (ne_eqb m (2 ^ k) (λ e. omega (arith, g, e)), ne_eqb (ones m) 1 (λ e. omega (arith, e, r, c))) (none_below k k m (omega arith) (omega (arith, g)))
    by (no l) (no g) i =
        let e : m ≡ 2 ^ k = omega (arith, l, g) in
        let c = counted (omega (arith, l)) in
        let z : m - 2 ^ k ≡ 0 = omega (arith, e) in
        let o : ones m ≡ 1 = c ∙ ap (λ (x : ℕ). 1 + ones x) z in
        rw (eq-eqb m (2 ^ k) e, eq-eqb (ones m) 1 o) refl

pub single_is : (m : ℕ) → m < 2 ^ 64 → is_power_of_two m ≡ single m
unfolding single
single_is m h = sym (single_below 64 m h)

no_zeros : trailing_ones w64 (2 ^ 64 - 1) ≡ 64
unfolding count_trailing_zeros
no_zeros = refl

-- The lowest bit that is not set.
pub lowest_is : (m : ℕ) → m < 2 ^ 64 → trailing_ones w64 m ≡ find (λ k. not (has m k)) 64 0
unfolding has
lowest_is m h = by (dec_lt (m + 1) (2 ^ 64))
  where
    f : ℕ
    f = find (λ k. not (eqb (m / 2 ^ k % 2) 1)) 64 0

    high : f ≤ 64
    high = find_high (λ k. not (eqb (m / 2 ^ k % 2) 1)) 64 0 (omega arith)

    -- the bit that is found is 0
    zero_at : f < 64 → (bit_at m f ≡ 1 → ⊥)
    zero_at l e = false≢true (sym (ap not (eq-eqb (bit_at m f) 1 e)) ∙ find_holds (λ k. not (eqb (m / 2 ^ k % 2) 1)) 64 0 (omega arith) l)

    all_set : (m + 1 < 2 ^ 64 → ⊥) → m ≡ 2 ^ 64 - 1
    all_set l = omega (arith, h, l)

    full : (m + 1 < 2 ^ 64 → ⊥) → f ≡ 64
    full l = elim (dec_lt f 64) [
      | yes a ↦ absurd (zero_at a (ap (λ (n : ℕ). bit_at n f) (all_set l) ∙ bit_at_ones 64 f a))
      | no a ↦ omega (arith, a, high)
    ]

    by : Dec (m + 1 < 2 ^ 64) → trailing_ones w64 m ≡ f
    by (yes l) =
        let t = bit_at-trailing_ones w64 m l in
        elim (dec_lt f (trailing_ones w64 m)) [
          | yes a ↦ absurd (zero_at (omega (arith, a, t.0)) (t.2 f a))
          | no a ↦ elim (dec_lt (trailing_ones w64 m) f) [
            | yes b ↦ absurd (false≢true (sym (find_before (λ k. not (eqb (m / 2 ^ k % 2) 1)) 64 0 (trailing_ones w64 m) (omega arith) b)
                ∙ ap not (ne_eqb (bit_at m (trailing_ones w64 m)) 1 (λ e. let z = t.1 in omega (arith, e, z)))))
            | no b ↦ omega (arith, a, b)
          ]
        ]
    by (no l) = ap (trailing_ones w64) (all_set l) ∙ no_zeros ∙ sym (full l)
