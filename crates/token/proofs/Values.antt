-- The laws of the values of numerals.
-- Assumes nothing.
use Prim.Native.Nat.{ℕ, suc, ◌+◌, ◌*◌, ◌≤◌, ◌<◌}
use mathlib.Core.Path.{◌≡◌, refl, sym, ◌∙◌, ap}
use mathlib.Core.List.{List, [], ◌∷◌}
use mathlib.Core.Bool.{Bool, true, false}
use native.Mathlib.Omega.{arith}
use native.Mathlib.Numerals.{add-one}
use native.Mathlib.Nat.{le-mul_of_pos_right, le_trans}
use lib.ListN.{length, drop, drop_of_length-le}
use lib.Seq.{drop-cons}
use lib.Dec.{leb, ltb}
use borrow.Author.Tests.{lt-ltb, le-ltb, le-leb, lt-leb, eq-eqb, ne_eqb, leb-true, leb-false}
use Rattle.token.specs.Find.{pick, both, byte}
use Rattle.token.specs.Numbers.{digit_of, all_digits, value_after, at_most, digits_after, numeral}
use Rattle.token.proofs.Find.{by_test}
use Rattle.std.specs.Prelude.{Option, Some, None}

pub num_at_most : (max n : ℕ) → n ≤ max → at_most max n ≡ Some n
unfolding at_most
num_at_most max n h = rw (le-leb n max h)

pub above : (max n : ℕ) → max < n → at_most max n ≡ None
unfolding at_most
above max n h = rw (lt-leb n max h)

pub was_is : (max n m : ℕ) → at_most max n ≡ Some m → (m ≡ n) × (n ≤ max)
unfolding at_most
was_is max n m =
    by_test (λ (v : Option ℕ). v ≡ Some m → (m ≡ n) × (n ≤ max)) (leb n max) (Some n) None
    (λ t e. ((cc), leb-true n max t))
    (λ t e. absurd (let z : ◌≡◌ {A = ℕ} 0 1 = cc in omega arith))

pub was_not : (max n : ℕ) → at_most max n ≡ None → max < n
unfolding at_most
was_not max n =
    by_test (λ (v : Option ℕ). v ≡ None → max < n) (leb n max) (Some n) None
    (λ t e. absurd (let z : ◌≡◌ {A = ℕ} 0 1 = cc in omega arith))
    (λ t e. leb-false n max t)

-- more digits make no smaller number
grows : (b : ℕ) → 0 < b → (a : ℕ) (xs : List ℕ) → a ≤ value_after b a xs
unfolding value_after
grows b pos a [] = omega arith
grows b pos a (x ∷ xs) =
    let m : a ≤ a * b = le-mul_of_pos_right a pos in
    let ih = grows b pos (a * b + digit_of x) xs in
    omega arith

none_either_way : (t : Bool) → ◌≡◌ {A = Option ℕ} (pick t None None) None
none_either_way true = refl
none_either_way false = refl

module _ (b max a : ℕ) (w : List ℕ) (i : ℕ) where
  pub digits_end : length w ≤ i → a ≤ max → digits_after b max a (drop i w) ≡ Some a
  unfolding digits_after value_after
  digits_end h k = ap (digits_after b max a) (drop_of_length-le w h) ∙ num_at_most max a k

  module _ (h : i < length w) (d : ℕ) (e : d ≡ digit_of (byte w i)) where
    opened : digits_after b max a (drop i w)
        ≡ pick (both (ltb d b) (all_digits b (drop (suc i) w))) (at_most max (value_after b (a * b + d) (drop (suc i) w))) None
    unfolding digits_after value_after
    opened =
        ap (digits_after b max a) (drop-cons w i 0 h)
        ∙ ap
        (λ (n : ℕ). pick (both (ltb n b) (all_digits b (drop (suc i) w))) (at_most max (value_after b (a * b + n) (drop (suc i) w))) None)
        (sym e)

    pub digits_stop : b ≤ d → digits_after b max a (drop i w) ≡ None
    digits_stop k = opened ∙ rw (le-ltb d b k)

    pub digits_over : 0 < b → max < a * b + d → digits_after b max a (drop i w) ≡ None
    digits_over pos k =
        opened
        ∙ rw (above max (value_after b (a * b + d) (drop (suc i) w)) (le_trans k (grows b pos (a * b + d) (drop (suc i) w))))
        (none_either_way (both (ltb d b) (all_digits b (drop (suc i) w))))

    pub digits_next : d < b → (m : ℕ) → m ≡ a * b + d → digits_after b max a (drop i w) ≡ digits_after b max m (drop (i + 1) w)
    unfolding digits_after
    digits_next k m f = opened ∙ rw (lt-ltb d b k, f, add-one)

module _ (signed : Bool) (max : ℕ) (w : List ℕ) where
  pub numeral_decimal : (length w ≡ 0 → ⊥) → (byte w 0 ≡ 48 → ⊥) → numeral signed max w ≡ digits_after 10 max 0 w
  unfolding numeral
  numeral_decimal f g = rw (ne_eqb (length w) 0 f, ne_eqb (byte w 0) 48 g)

  pub numeral_zero : length w ≡ 1 → byte w 0 ≡ 48 → numeral signed max w ≡ Some 0
  unfolding numeral
  numeral_zero e f = rw (ne_eqb (length w) 0 (omega arith), eq-eqb (byte w 0) 48 f, eq-eqb (length w) 1 e)
