-- The masks of the events, in the rows of the values and in the syntax. Assumes nothing.
use mathlib.Core.Path.{◌≡◌, refl, sym, ◌∙◌, ap, ap₂}
use mathlib.Core.List.{List, [], ◌∷◌, ◌++◌, append_assoc}
use mathlib.Core.Bool.{Bool, false}
use Prim.Native.Nat.{ℕ, suc, ◌+◌, ◌<◌, ◌≤◌}
use native.Mathlib.Omega.{arith}
use lib.Dec.{eqb}
use borrow.Author.Tests.{eq-eqb, ne_eqb}
use Rattle.token.specs.Find.{pick, both}
use Rattle.token.specs.Words.{bytes_of, same}
use Rattle.rows.specs.Table.{cell_of}
use Rattle.rows.specs.Search.{row_name, find_from}
use Rattle.rows.proofs.Searches.{find_stop, find_more, find_end}
use Rattle.meaning.specs.Resolving.{Value, number, truth, auto, string, float, enumerator, object, Resolved, end, resolved, Owner, of_object, of_value, ValueRow, value_row, value_rows, all_value_rows, how_many_values}
use Rattle.meaning.specs.Cells.{owner_sort, owner_row, value_sort, value_amount, value_cells}
use Rattle.meaning.proofs.Rooms.{value_width}
use Rattle.writing.specs.Promises.{From, AllTold, more_told}
use Rattle.writing.proofs.Froms.{from_cell, from_append}
use Rattle.masks.specs.Masks.{Mask, given, automatic}
use Rattle.masks.specs.Events.{is_mask, mask_by, mask_in}
use Rattle.masks.specs.Members.{is_mask_at, sort_found, amount_found, mask_found}
use Rattle.masks.proofs.Reflections.{Cases, yes, no, cases}

-- Whether an owner is the object of a row.
unfoldable pub owns : Owner → ℕ → Bool
owns (of_object o) row = eqb o row
owns (of_value k) row = false

owns_is : (w : Owner) (row : ℕ) → both (eqb (owner_sort w) 0) (eqb (owner_row w) row) ≡ owns w row
unfolding owner_sort owner_row owns
owns_is (of_object o) row = refl
owns_is (of_value k) row = refl

by_cells : (v : Value) → pick (eqb (value_sort v) 0) (given (value_amount v)) automatic ≡ mask_by v
unfolding value_sort value_amount mask_by
by_cells (number n) = refl
by_cells (truth b) = refl
by_cells auto = refl
by_cells string = refl
by_cells float = refl
by_cells (enumerator e) = refl
by_cells (object o) = refl

module _ (s d : List ℕ) where
  named : ℕ → Bool
  named j = same (row_name s d 13 2 j) (bytes_of "MASK")

  -- The MASK of the object of a row, among rows.
  unfoldable pub row_mask : List ValueRow → ℕ → Mask
  row_mask [] row = automatic
  row_mask (r ∷ rs) row = let m = row_mask rs row in pick (both (owns r.owner row) (same (row_name s d 13 2 r.definition) (bytes_of "MASK"))) (mask_by r.value) m

  module _ (v : List ℕ) (n row : ℕ) where
    -- The cells of the values have the mask of their rows.
    pub cells_mask : (rs : List ValueRow) (k : ℕ) → From 9 value_cells v n k rs → mask_found v (find_from (is_mask_at s d v row) n k) ≡ row_mask rs row
    unfolding row_mask mask_found sort_found amount_found is_mask_at value_cells
    cells_mask [] k h = let c = h.count in let z : n ≤ k = omega (arith, c) in ap (mask_found v) (find_end (is_mask_at s d v row) n k z)
    cells_mask (r ∷ rs) k h = go (cases (is_mask_at s d v row k)) (cells_mask rs (k + 1) (from_append 9 value_cells value_width (r ∷ []) rs refl h))
      where
        inside : k < n
        inside = let c = h.count in omega (arith, c)

        e0 : cell_of v 9 k 0 ≡ r.definition
        e0 = from_cell 9 value_cells value_width r rs 0 (omega arith) h

        e1 : cell_of v 9 k 1 ≡ owner_sort r.owner
        e1 = from_cell 9 value_cells value_width r rs 1 (omega arith) h

        e2 : cell_of v 9 k 2 ≡ owner_row r.owner
        e2 = from_cell 9 value_cells value_width r rs 2 (omega arith) h

        e3 : cell_of v 9 k 3 ≡ value_sort r.value
        e3 = from_cell 9 value_cells value_width r rs 3 (omega arith) h

        e5 : cell_of v 9 k 5 ≡ value_amount r.value
        e5 = from_cell 9 value_cells value_width r rs 5 (omega arith) h

        test : is_mask_at s d v row k ≡ both (owns r.owner row) (same (row_name s d 13 2 r.definition) (bytes_of "MASK"))
        test = ap₂ both (ap₂ (λ (i j : ℕ). both (eqb i 0) (eqb j row)) e1 e2 ∙ owns_is r.owner row) (ap (λ (j : ℕ). same (row_name s d 13 2 j) (bytes_of "MASK")) e0)

        go : Cases (is_mask_at s d v row k) → mask_found v (find_from (is_mask_at s d v row) n (k + 1)) ≡ row_mask rs row
            → mask_found v (find_from (is_mask_at s d v row) n k) ≡ pick (both (owns r.owner row) (same (row_name s d 13 2 r.definition) (bytes_of "MASK"))) (mask_by r.value) (row_mask rs row)
        go (yes q) e =
            ap (mask_found v) (find_stop (is_mask_at s d v row) n k inside q)
            ∙ ap₂ (λ (i j : ℕ). pick (eqb i 0) (given j) automatic) e3 e5 ∙ by_cells r.value
            ∙ sym (ap (λ (b : Bool). pick b (mask_by r.value) (row_mask rs row)) (sym test ∙ q))
        go (no q) e =
            ap (mask_found v) (find_more (is_mask_at s d v row) n k inside q) ∙ e
            ∙ sym (ap (λ (b : Bool). pick b (mask_by r.value) (row_mask rs row)) (sym test ∙ q))

  -- Rows of another object, or under a value, do not count.
  skip : (row : ℕ) (y : Resolved) (n : ℕ) (w : Owner) (rest : List ValueRow) → owns w row ≡ false → row_mask (value_rows y n w ++ rest) row ≡ row_mask rest row
  unfolding row_mask value_rows value_row owns
  skip row end n w rest e = refl
  skip row (resolved t us more) n w rest e =
      ap (λ (b : Bool). pick (both b (same (row_name s d 13 2 t.definition.row) (bytes_of "MASK"))) (mask_by t.value) (row_mask ((value_rows us (suc n) (of_value n) ++ value_rows more (suc n + how_many_values us) w) ++ rest) row)) e
      ∙ ap (λ (l : List ValueRow). row_mask l row) (append_assoc (value_rows us (suc n) (of_value n)) (value_rows more (suc n + how_many_values us) w) rest)
      ∙ skip row us (suc n) (of_value n) (value_rows more (suc n + how_many_values us) w ++ rest) refl
      ∙ skip row more (suc n + how_many_values us) w rest e

  -- The object's own rows have its mask.
  own : (o : ℕ) (y : Resolved) (n : ℕ) (rest : List ValueRow) → AllTold s d y → row_mask rest o ≡ automatic → row_mask (value_rows y n (of_object o) ++ rest) o ≡ mask_in y
  unfolding row_mask value_rows value_row owns mask_in is_mask
  own o end n rest t e = e
  own o (resolved t us more) n rest (more_told a b c) e =
      ap (λ (x : Bool). pick (both x (same (row_name s d 13 2 t.definition.row) (bytes_of "MASK"))) (mask_by t.value) (row_mask ((value_rows us (suc n) (of_value n) ++ value_rows more (suc n + how_many_values us) (of_object o)) ++ rest) o)) (eq-eqb o o refl)
      ∙ ap₂ (λ (x : List ℕ) (m : Mask). pick (same x (bytes_of "MASK")) (mask_by t.value) m) a.name
      (ap (λ (l : List ValueRow). row_mask l o) (append_assoc (value_rows us (suc n) (of_value n)) (value_rows more (suc n + how_many_values us) (of_object o)) rest)
      ∙ skip o us (suc n) (of_value n) (value_rows more (suc n + how_many_values us) (of_object o) ++ rest) refl
      ∙ own o more (suc n + how_many_values us) rest c e)

  -- The rows of objects behind have none.
  behind : (ys : List Resolved) (o n row : ℕ) → row < o → row_mask (all_value_rows ys o n) row ≡ automatic
  unfolding all_value_rows row_mask owns
  behind [] o n row h = refl
  behind (y ∷ ys) o n row h =
      let k : row < suc o = omega (arith, h) in
      skip row y n (of_object o) (all_value_rows ys (suc o) (n + how_many_values y)) (ne_eqb o row (λ (q : o ≡ row). omega (arith, h, q)))
      ∙ behind ys (suc o) (n + how_many_values y) row k

  pub first_mask : (y : Resolved) (ys : List Resolved) (o n : ℕ) → AllTold s d y → row_mask (all_value_rows (y ∷ ys) o n) o ≡ mask_in y
  unfolding all_value_rows
  first_mask y ys o n t = own o y n (all_value_rows ys (suc o) (n + how_many_values y)) t (behind ys (suc o) (n + how_many_values y) o (omega arith))

  pub later_mask : (y : Resolved) (ys : List Resolved) (o n row : ℕ) → o < row → row_mask (all_value_rows (y ∷ ys) o n) row ≡ row_mask (all_value_rows ys (suc o) (n + how_many_values y)) row
  unfolding all_value_rows owns
  later_mask y ys o n row h = skip row y n (of_object o) (all_value_rows ys (suc o) (n + how_many_values y)) (ne_eqb o row (λ (q : o ≡ row). omega (arith, h, q)))
