-- Rows of other owners do not count. Assumes nothing.
use mathlib.Core.Path.{◌≡◌, refl, sym, ◌∙◌, ap, ap₂}
use mathlib.Core.List.{List, [], ◌∷◌, ◌++◌}
use mathlib.Core.Bool.{Bool, true, false}
use Prim.Native.Nat.{ℕ, suc, ◌+◌, ◌-◌, ◌<◌, ◌≤◌}
use native.Mathlib.Omega.{arith}
use native.Mathlib.Numerals.{add-one}
use lib.ListN.{length}
use lib.Dec.{eqb}
use borrow.Author.Tests.{eq-eqb, ne_eqb}
use Rattle.token.specs.Find.{both}
use Rattle.token.specs.Words.{same}
use Rattle.rows.specs.Table.{cell_of}
use Rattle.rows.specs.Search.{row_name}
use Rattle.std.specs.Prelude.{None}
use Rattle.meaning.specs.Resolving.{Resolved, end, resolved, Owner, of_object, of_value, ValueRow, value_row, value_rows, all_value_rows, how_many_values}
use Rattle.meaning.specs.Cells.{owner_sort, owner_row, value_cells}
use Rattle.meaning.proofs.Rooms.{value_width}
use Rattle.writing.specs.Promises.{From}
use Rattle.writing.proofs.Froms.{from_cell, from_append}
use Rattle.attribute_values.specs.Rows.{owned_at, named_at, seek}
use Rattle.attribute_values.proofs.Seeking.{seek_pass, seek_end}

-- Whether w is the owner of this sort and row.
unfoldable pub has : (sort row : ℕ) → Owner → Bool
has sort row w = both (eqb (owner_sort w) sort) (eqb (owner_row w) row)

pub has_own : (o : Owner) → has (owner_sort o) (owner_row o) o ≡ true
unfolding has
has_own o = ap₂ both (eq-eqb (owner_sort o) (owner_sort o) refl) (eq-eqb (owner_row o) (owner_row o) refl)

-- No value is an object.
pub object_not : (i m : ℕ) → has 0 i (of_value m) ≡ false
unfolding has owner_sort
object_not i m = refl

pub not_object : (m i : ℕ) → has 1 m (of_object i) ≡ false
unfolding has owner_sort
not_object m i = refl

pub other_value : (k m : ℕ) → (m ≡ k → ⊥) → has 1 k (of_value m) ≡ false
unfolding has owner_sort owner_row
other_value k m h = ne_eqb m k h

pub other_object : (i j : ℕ) → (j ≡ i → ⊥) → has 0 i (of_object j) ≡ false
unfolding has owner_sort owner_row
other_object i j h = ne_eqb j i h

-- The owner of none of these rows is the one of this sort and row, or a value from row `low` on and before row `high`.
pub data Outside (low high sort row : ℕ) : List ValueRow → Type 0 where
  none_left : Outside low high sort row []
  one_more : {r : ValueRow} {rs : List ValueRow} → has sort row r.owner ≡ false → ((m : ℕ) → low ≤ m → m < high → has 1 m r.owner ≡ false)
      → Outside low high sort row rs → Outside low high sort row (r ∷ rs)

pub outside_append : {low high sort row : ℕ} {xs ys : List ValueRow} → Outside low high sort row xs → Outside low high sort row ys → Outside low high sort row (xs ++ ys)
outside_append none_left b = b
outside_append (one_more p q a) b = one_more p q (outside_append a b)

-- So it is for fewer values, and for one of these values as the owner.
pub outside_narrow : {low high sort row low' high' : ℕ} {xs : List ValueRow} → low ≤ low' → high' ≤ high → Outside low high sort row xs → Outside low' high' sort row xs
outside_narrow a b none_left = none_left
outside_narrow a b (one_more p q r) = one_more p (λ m c d. q m (omega (arith, a, c)) (omega (arith, b, d))) (outside_narrow a b r)

pub outside_value : {low high sort row low' high' k : ℕ} {xs : List ValueRow} → low ≤ k → k < high → low ≤ low' → high' ≤ high → Outside low high sort row xs → Outside low' high' 1 k xs
outside_value g h a b none_left = none_left
outside_value {k = k} g h a b (one_more p q r) = one_more (q k g h) (λ m c d. q m (omega (arith, a, c)) (omega (arith, b, d))) (outside_value g h a b r)

-- The rows of values from row n on: owned by w, or by one of themselves.
pub values_outside : (low high sort row : ℕ) (y : Resolved) (n : ℕ) (w : Owner) → high ≤ n → has sort row w ≡ false → ((m : ℕ) → low ≤ m → m < high → has 1 m w ≡ false)
    → ((m : ℕ) → n ≤ m → has sort row (of_value m) ≡ false) → Outside low high sort row (value_rows y n w)
unfolding value_rows value_row
values_outside low high sort row end n w h a b c = none_left
values_outside low high sort row (resolved t us more) n w h a b c =
    one_more a b
    (outside_append
    (values_outside low high sort row us (suc n) (of_value n) (omega (arith, h)) (c n (omega arith)) (λ m p q. other_value m n (λ (z : n ≡ m). omega (arith, z, q, h))) (λ m p. c m (omega (arith, p))))
    (values_outside low high sort row more (suc n + how_many_values us) w (omega (arith, h)) a b (λ m p. c m (omega (arith, p)))))

-- The rows of the values of objects behind object i.
pub objects_outside : (low high i : ℕ) (ys : List Resolved) (j n : ℕ) → i < j → high ≤ n → Outside low high 0 i (all_value_rows ys j n)
unfolding all_value_rows
objects_outside low high i [] j n g h = none_left
objects_outside low high i (y ∷ ys) j n g h =
    outside_append
    (values_outside low high 0 i y n (of_object j) h (other_object i j (λ (z : j ≡ i). omega (arith, z, g))) (λ m p q. not_object m j) (λ m p. object_not i m))
    (objects_outside low high i ys (suc j) (n + how_many_values y) (omega (arith, g)) (omega (arith, h)))

-- The search passes over them ----------------------------------------------------------------------------------------------------------------

module _ (s d v : List ℕ) (e sort row : ℕ) (name : List ℕ) (picked : ℕ → ℕ → Bool) where
  abbrev named : ℕ → Bool
  named = named_at s d v sort row name

  owner_is : {k : ℕ} (r : ValueRow) (rs : List ValueRow) → From 9 value_cells v e k (r ∷ rs) → owned_at v sort row k ≡ has sort row r.owner
  unfolding owned_at has value_cells
  owner_is {k} r rs h = ap₂ (λ (i j : ℕ). both (eqb i sort) (eqb j row)) (from_cell 9 value_cells value_width r rs 1 (omega arith) h) (from_cell 9 value_cells value_width r rs 2 (omega arith) h)

  named_not : {k : ℕ} (r : ValueRow) (rs : List ValueRow) → From 9 value_cells v e k (r ∷ rs) → has sort row r.owner ≡ false → named k ≡ false
  unfolding named_at
  named_not {k} r rs h q = ap (λ (b : Bool). both b (same (row_name s d 13 2 (cell_of v 9 k 0)) name)) (owner_is r rs h ∙ q)

  pub pass_over : {low high k : ℕ} (xs ys : List ValueRow) (n : ℕ) → From 9 value_cells v e k (xs ++ ys) → Outside low high sort row xs
      → seek named picked (e - k) k n ≡ seek named picked (e - (k + length xs)) (k + length xs) n
  pass_over {k = k} [] ys n h none_left = let z : k ≡ k + 0 = omega arith in ap (λ (i : ℕ). seek named picked (e - i) i n) z
  pass_over {k = k} (r ∷ xs) ys n h (one_more p q a) =
      let c = h.count in
      let i : k < e = omega (arith, c) in
      let y : suc k ≡ k + 1 = sym (add-one k) in
      let z : suc k + length xs ≡ k + suc (length xs) = omega arith in
      seek_pass named picked e k n i (named_not r (xs ++ ys) h p)
      ∙ pass_over xs ys n (from_append 9 value_cells value_width (r ∷ []) (xs ++ ys) y h) a
      ∙ ap (λ (j : ℕ). seek named picked (e - j) j n) z

  -- Where nothing else is left, nothing is found.
  pub nothing_left : {low high k : ℕ} (xs : List ValueRow) (n : ℕ) → From 9 value_cells v e k xs → Outside low high sort row xs → seek named picked (e - k) k n ≡ None
  nothing_left {k = k} [] n h a = let c = h.count in let z : e ≤ k = omega (arith, c) in seek_end named picked e k n z
  nothing_left {k = k} (r ∷ xs) n h (one_more p q a) =
      let c = h.count in
      let i : k < e = omega (arith, c) in
      let y : suc k ≡ k + 1 = sym (add-one k) in
      seek_pass named picked e k n i (named_not r xs h p) ∙ nothing_left xs n (from_append 9 value_cells value_width (r ∷ []) xs y h) a
