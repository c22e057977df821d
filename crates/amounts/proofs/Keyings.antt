-- Numbers as cells: two numbers that have cells have the same one where they are equal; a float's two cells hold it. Assumes nothing.
use mathlib.Core.Path.{◌≡◌, refl, sym, ◌∙◌, ap, ap₂}
use mathlib.Core.Bool.{Bool, true, false, not, false≢true}
use Prim.Native.Nat.{ℕ, ◌+◌, ◌-◌, ◌*◌, ◌/◌, ◌%◌, ◌^◌, ◌≤◌, ◌<◌}
use native.Mathlib.Omega.{arith}
use lib.Dec.{eqb, leb, ltb}
use borrow.Author.Tests.{eqb-true, eqb-false, leb-true, ltb-true, le-leb, lt-leb, eq-eqb, ne_eqb}
use Rattle.token.specs.Find.{pick, both, either}
use Rattle.meaning.specs.Syntax.{Num}
use Rattle.meaning.specs.Words.{num_at_most, equal}
use Rattle.amounts.specs.Keys.{signed_code, num_has_key, key}
use Rattle.amounts.specs.Known.{float_in}

-- Tests ------------------------------------------------------------------------------------------------------------------------------------

both_true : (p q : Bool) → both p q ≡ true → (p ≡ true) × (q ≡ true)
both_true true q e = (refl, e)
both_true false q e = absurd (false≢true e)

-- Equal where neither is less.
two_tests : (u v x y : ℕ) → (u ≡ v → x ≡ y) → (x ≡ y → u ≡ v) → eqb u v ≡ both (leb x y) (leb y x)
two_tests u v x y f g = by (eqb u v) refl
  where
    with_least : (h : x ≡ y → ⊥) (c : Bool) → leb x y ≡ c → false ≡ both c (leb y x)
    with_least h true e = let a = leb-true x y e in sym (lt-leb y x (lt a h))
      where
        lt : x ≤ y → (x ≡ y → ⊥) → x < y
        lt a h = omega arith
    with_least h false e = refl

    by : (c : Bool) → eqb u v ≡ c → c ≡ both (leb x y) (leb y x)
    by true e = let h = f (eqb-true u v e) in sym (ap₂ both (le-leb x y (omega arith)) (le-leb y x (omega arith)))
    by false e = with_least (λ h. eqb-false u v e (g h)) (leb x y) refl

-- Cells ------------------------------------------------------------------------------------------------------------------------------------

abbrev number : Bool → ℕ → Num
number b a = record { negative = b; amount = a }

signed_negative : (x : ℕ) → num_has_key true (number true x) ≡ true → (1 ≤ x) × (x ≤ 9223372036854775808)
unfolding num_has_key
signed_negative x e =
    let h = both_true (leb 1 x) (leb x 9223372036854775808) e in
    (leb-true 1 x h.0, leb-true x 9223372036854775808 h.1)

signed_other : (x : ℕ) → num_has_key true (number false x) ≡ true → x < 9223372036854775808
unfolding num_has_key
signed_other x e = ltb-true x 9223372036854775808 e

keys_of : (g a b : Bool) (x y : ℕ) → num_has_key g (number a x) ≡ true → num_has_key g (number b y) ≡ true → eqb (key (number b y)) (key (number a x)) ≡ equal (number a x) (number b y)
unfolding num_has_key key equal num_at_most
keys_of false true b x y p q = absurd (false≢true p)
keys_of false false true x y p q = absurd (false≢true q)
keys_of false false false x y p q = two_tests y x x y sym sym
keys_of true true true x y p q =
    let h = signed_negative x p in
    let k = signed_negative y q in
    two_tests (18446744073709551615 - (y - 1)) (18446744073709551615 - (x - 1)) y x (λ e. omega (arith, h, k, e)) (λ e. omega (arith, e))
keys_of true true false x y p q =
    let h = signed_negative x p in
    let k = signed_other y q in
    ne_eqb y (18446744073709551615 - (x - 1)) (λ e. omega (arith, h, k, e))
keys_of true false true x y p q =
    let h = signed_other x p in
    let k = signed_negative y q in
    ne_eqb (18446744073709551615 - (y - 1)) x (λ e. omega (arith, h, k, e))
keys_of true false false x y p q = two_tests y x x y sym sym

pub keys_equal : (g : Bool) (n m : Num) → num_has_key g n ≡ true → num_has_key g m ≡ true → eqb (key m) (key n) ≡ equal n m
keys_equal g n m p q = keys_of g n.negative m.negative n.amount m.amount p q

-- Floats ------------------------------------------------------------------------------------------------------------------------------------

module _ (b : Bool) (m k : ℕ) (h : k < 256) where
  scale_cell : (c s : ℕ) (v : Bool) → c % 2 ≡ s → not (eqb s 0) ≡ v → c / 2 ≡ k → b ≡ v → float_in m c ≡ record { negative = b; amount = m * 10 ^ k }
  unfolding float_in
  scale_cell c s v x y z e =
      let w : k % 256 ≡ k = omega (arith, h) in
      ap₂ (λ u n. record { negative = u; amount = m * 10 ^ n }) (ap (λ n. not (eqb n 0)) x ∙ y ∙ sym e) (ap (λ n. n % 256) z ∙ w)

  pub scale_negative : b ≡ true → float_in m (k * 2 + 1) ≡ record { negative = b; amount = m * 10 ^ k }
  scale_negative e = scale_cell (k * 2 + 1) 1 true (omega arith) refl (omega arith) e

  pub scale_other : b ≡ false → float_in m (k * 2) ≡ record { negative = b; amount = m * 10 ^ k }
  scale_other e = scale_cell (k * 2) 0 false (omega arith) refl (omega arith) e
