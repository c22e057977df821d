-- Records put to the front of a list, one after the other. Assumes nothing.
use mathlib.Core.Path.{◌≡◌, refl, sym, ◌∙◌, ap}
use mathlib.Core.List.{List, [], ◌∷◌}
use Prim.Native.Nat.{ℕ, zero, suc, ◌-◌, ◌<◌, min}
use native.Mathlib.Nat.{not-suc-le-zero, le_of_suc-le-suc}
use native.Mathlib.Omega.{arith}
use lib.ListN.{length, set, get_or, take}
use Rattle.comparing.specs.Lists.{overwrite}

pub length_overwrite : {A : Type 0} (ds l : List A) → length (overwrite ds l) ≡ length l
unfolding overwrite
length_overwrite [] l = refl
length_overwrite (d ∷ ds) [] = refl
length_overwrite (d ∷ ds) (x ∷ l) = ap suc (length_overwrite ds l)

-- One more record.
pub overwrite_next : {A : Type 0} (ds l : List A) (k : ℕ) (z : A) → k < length ds → k < length l → set (overwrite (take k ds) l) k (get_or ds k z) ≡ overwrite (take (suc k) ds) l
unfolding overwrite
overwrite_next [] l k z h g = absurd (not-suc-le-zero h)
overwrite_next (d ∷ ds) [] k z h g = absurd (not-suc-le-zero g)
overwrite_next (d ∷ ds) (x ∷ l) zero z h g = refl
overwrite_next (d ∷ ds) (x ∷ l) (suc k) z h g = ap (λ (m : List _). d ∷ m) (overwrite_next ds l k z (le_of_suc-le-suc h) (le_of_suc-le-suc g))

overwrite_none : {A : Type 0} (ds : List A) → overwrite ds [] ≡ []
unfolding overwrite
overwrite_none [] = refl
overwrite_none (d ∷ ds) = refl

min_zero : (n : ℕ) → min zero n ≡ zero
min_zero n = omega arith

min_suc : (m n : ℕ) → min (suc m) (suc n) ≡ suc (min m n)
min_suc m n = omega arith

-- What lies past the list is not stored.
pub overwrite_past : {A : Type 0} (ds l : List A) (m : ℕ) → overwrite (take (min m (length l)) ds) l ≡ overwrite (take m ds) l
unfolding overwrite
overwrite_past ds [] m = overwrite_none (take (min m zero) ds) ∙ sym (overwrite_none (take m ds))
overwrite_past ds (x ∷ l) zero = ap (λ (k : ℕ). overwrite (take k ds) (x ∷ l)) (min_zero (suc (length l)))
overwrite_past [] (x ∷ l) (suc m) = ap (λ (k : ℕ). overwrite (take k []) (x ∷ l)) (min_suc m (length l))
overwrite_past (d ∷ ds) (x ∷ l) (suc m) =
    ap (λ (k : ℕ). overwrite (take k (d ∷ ds)) (x ∷ l)) (min_suc m (length l)) ∙ ap (λ (r : List _). d ∷ r) (overwrite_past ds l m)

-- Before the first.
pub overwrite_start : {A : Type 0} (ds l : List A) (n : ℕ) → l ≡ overwrite (take (n - n) ds) l
unfolding overwrite
overwrite_start ds l n = let e : zero ≡ n - n = omega arith in ap (λ (k : ℕ). overwrite (take k ds) l) e

-- The list after the record of a turn, where t are left of n.
pub overwrite_turn : {A : Type 0} (ds l : List A) (n t : ℕ) (z d : A) (m : List A) → n - t < n → t < suc n → n - t < length ds → n - t < length l
    → d ≡ get_or ds (n - t) z → m ≡ set (overwrite (take (n - t) ds) l) (n - t) d → m ≡ overwrite (take (n - (t - 1)) ds) l
overwrite_turn ds l n t z d m a b f g e c =
    let next : suc (n - t) ≡ n - (t - 1) = omega arith in
    c ∙ ap (λ (y : _). set (overwrite (take (n - t) ds) l) (n - t) y) e ∙ overwrite_next ds l (n - t) z f g ∙ ap (λ (k : ℕ). overwrite (take k ds) l) next

-- After the last.
pub overwrite_end : {A : Type 0} (ds l : List A) (m t : ℕ) → min m (length l) - t ≡ min m (length l) → overwrite (take (min m (length l) - t) ds) l ≡ overwrite (take m ds) l
overwrite_end ds l m t e = ap (λ (k : ℕ). overwrite (take k ds) l) e ∙ overwrite_past ds l m
