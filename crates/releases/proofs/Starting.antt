-- The rows of an object's values end where those of another object begin. Assumes nothing.
use mathlib.Core.Path.{◌≡◌, refl, sym, ◌∙◌, ap, ap₂}
use mathlib.Core.List.{List, [], ◌∷◌, ◌++◌}
use mathlib.Core.Bool.{Bool, true, false, not}
use Prim.Native.Nat.{ℕ, suc, ◌+◌, ◌-◌, ◌<◌, ◌≤◌, max}
use native.Mathlib.Omega.{arith}
use native.Mathlib.Decide.{dec_le}
use lib.Dec.{eqb}
use lib.ListN.{length}
use borrow.Author.Tests.{eq-eqb, ne_eqb}
use Rattle.token.specs.Find.{both, find}
use Rattle.token.proofs.Find.{find_past, find_here, find_next}
use Rattle.rows.specs.Table.{cell_of}
use Rattle.meaning.specs.Resolving.{Resolved, end, resolved, Owner, of_object, of_value, ValueRow, value_row, value_rows, all_value_rows, how_many_values}
use Rattle.meaning.specs.Cells.{owner_sort, owner_row, value_cells}
use Rattle.meaning.proofs.Rooms.{value_width}
use Rattle.meaning.proofs.Entries.{length_values}
use Rattle.writing.specs.Promises.{From}
use Rattle.writing.proofs.Froms.{from_cell, from_append}
use Rattle.releases.specs.Starts.{other_object, object_end, start_at, one_more, first_row, many_rows}

-- The code ---------------------------------------------------------------------------------------------------------------------------------

pub other_not : (v : List ℕ) (i j a : ℕ) → a ≡ cell_of v 9 j 1 → (a ≡ 0 → ⊥) → false ≡ other_object v i j
unfolding other_object
other_not v i j a e n = sym (ap (λ (c : Bool). both c (not (eqb (cell_of v 9 j 2) i))) (ne_eqb (cell_of v 9 j 1) 0 (λ z. n (e ∙ z))))

pub other_is : (v : List ℕ) (i j a b : ℕ) (r : Bool) → a ≡ cell_of v 9 j 1 → a ≡ 0 → b ≡ cell_of v 9 j 2 → r ≡ not (eqb b i) → r ≡ other_object v i j
unfolding other_object
other_is v i j a b r e z f q =
    q ∙ ap (λ (k : ℕ). not (eqb k i)) f ∙ sym (ap (λ (c : Bool). both c (not (eqb (cell_of v 9 j 2) i))) (eq-eqb (cell_of v 9 j 1) 0 (sym e ∙ z)))

module _ (v : List ℕ) (n i k : ℕ) where
  pub end_here : (j : ℕ) → j < n → true ≡ other_object v i j → find (other_object v i) n j ≡ object_end v n i k → j ≡ object_end v n i k
  end_here j h e q = sym (find_here (other_object v i) n j h (sym e)) ∙ q

  pub end_next : (j : ℕ) → j < n → false ≡ other_object v i j → find (other_object v i) n j ≡ object_end v n i k → find (other_object v i) n (j + 1) ≡ object_end v n i k
  end_next j h e q = sym (find_next (other_object v i) n j h (sym e)) ∙ q

  pub end_past : (j : ℕ) → n ≤ j → find (other_object v i) n j ≡ object_end v n i k → j ≡ object_end v n i k
  end_past j h q = sym (find_past (other_object v i) n j h) ∙ q

  -- a walk from k to n, or one that begins past it, found no other object
  pub end_walked : (j : ℕ) → n ≤ j → (k ≤ n → j ≤ n) → find (other_object v i) n j ≡ object_end v n i k → max n k ≡ object_end v n i k
  unfolding object_end
  end_walked j h t q = by (dec_le k n)
    where
      by : Dec (k ≤ n) → max n k ≡ find (other_object v i) n k
      by (yes l) = let m : max n k ≡ j = omega (arith, t l) in m ∙ end_past j h q
      by (no l) = let m : max n k ≡ k = omega arith in m ∙ sym (find_past (other_object v i) n k (omega arith))

  pub end_start : find (other_object v i) n k ≡ object_end v n i k
  unfolding object_end
  end_start = refl

pub start_next : (v : List ℕ) (n i k e : ℕ) → k ≡ start_at v n i → e ≡ object_end v n i k → e ≡ start_at v n (i + 1)
unfolding start_at
start_next v n i k e p q =
    let one : suc i ≡ i + 1 = omega arith in q ∙ ap (object_end v n i) p ∙ ap (start_at v n) one

pub start_none : (v : List ℕ) (n : ℕ) → 0 ≡ start_at v n 0
unfolding start_at
start_none v n = refl

pub rows_some : (st : List ℕ) (i a b : ℕ) → a ≡ first_row st i → b ≡ first_row st (one_more i) → b - a ≡ many_rows st i
unfolding many_rows
rows_some st i a b e f = ap₂ (λ (p q : ℕ). p - q) f e

-- The rows ---------------------------------------------------------------------------------------------------------------------------------

-- An owner that is the object i or a value,
pub data Own (i : ℕ) : Owner → Type 0 where
  own_object : Own i (of_object i)
  own_value : {m : ℕ} → Own i (of_value m)

-- rows with such owners only,
pub data AllOwn (i : ℕ) : List ValueRow → Type 0 where
  none_own : AllOwn i []
  more_own : {x : ValueRow} {xs : List ValueRow} → Own i x.owner → AllOwn i xs → AllOwn i (x ∷ xs)

-- and rows of which the first, if there is one, is that of a later object.
pub data Later (i : ℕ) : List ValueRow → Type 0 where
  none_later : Later i []
  one_later : {x : ValueRow} {xs : List ValueRow} (j : ℕ) → i < j → x.owner ≡ of_object j → Later i (x ∷ xs)

own_append : (i : ℕ) (a b : List ValueRow) → AllOwn i a → AllOwn i b → AllOwn i (a ++ b)
own_append i [] b none_own q = q
own_append i (x ∷ a) b (more_own o p) q = more_own o (own_append i a b p q)

own_rows : (i : ℕ) (r : Resolved) (k : ℕ) (o : Owner) → Own i o → AllOwn i (value_rows r k o)
unfolding value_rows value_row
own_rows i end k o h = none_own
own_rows i (resolved t us r) k o h =
    more_own h (own_append i (value_rows us (suc k) (of_value k)) (value_rows r (suc k + how_many_values us) o) (own_rows i us (suc k) (of_value k) own_value) (own_rows i r (suc k + how_many_values us) o h))

later_rows : (i j : ℕ) (rs : List Resolved) (k : ℕ) → i < j → Later i (all_value_rows rs j k)
unfolding all_value_rows value_rows value_row how_many_values
later_rows i j [] k h = none_later
later_rows i j (end ∷ rs) k h = later_rows i (suc j) rs (k + 0) (omega (arith, h))
later_rows i j (resolved t us r ∷ rs) k h = one_later j h refl

module _ (v : List ℕ) (n i : ℕ) where
  own_cell : (x : ValueRow) (xs : List ValueRow) (k : ℕ) → From 9 value_cells v n k (x ∷ xs) → (o : Owner) → x.owner ≡ o → Own i o → other_object v i k ≡ false
  unfolding other_object value_cells owner_sort owner_row
  own_cell x xs k a o e own_object =
      let sort : cell_of v 9 k 1 ≡ 0 = from_cell 9 value_cells value_width x xs 1 (omega arith) a ∙ ap owner_sort e in
      let row : cell_of v 9 k 2 ≡ i = from_cell 9 value_cells value_width x xs 2 (omega arith) a ∙ ap owner_row e in
      ap₂ (λ (b c : Bool). both b (not c)) (eq-eqb (cell_of v 9 k 1) 0 sort) (eq-eqb (cell_of v 9 k 2) i row)
  own_cell x xs k a o e own_value =
      let sort : cell_of v 9 k 1 ≡ 1 = from_cell 9 value_cells value_width x xs 1 (omega arith) a ∙ ap owner_sort e in
      ap (λ (b : Bool). both b (not (eqb (cell_of v 9 k 2) i))) (ne_eqb (cell_of v 9 k 1) 0 (λ z. omega (arith, sort, z)))

  later_cell : (x : ValueRow) (xs : List ValueRow) (k j : ℕ) → From 9 value_cells v n k (x ∷ xs) → i < j → x.owner ≡ of_object j → other_object v i k ≡ true
  unfolding other_object value_cells owner_sort owner_row
  later_cell x xs k j a h e =
      let sort : cell_of v 9 k 1 ≡ 0 = from_cell 9 value_cells value_width x xs 1 (omega arith) a ∙ ap owner_sort e in
      let row : cell_of v 9 k 2 ≡ j = from_cell 9 value_cells value_width x xs 2 (omega arith) a ∙ ap owner_row e in
      ap₂ (λ (b c : Bool). both b (not c)) (eq-eqb (cell_of v 9 k 1) 0 sort) (ne_eqb (cell_of v 9 k 2) i (λ z. omega (arith, row, z, h)))

  ends_at : (xs rest : List ValueRow) (k : ℕ) → AllOwn i xs → Later i rest → From 9 value_cells v n k (xs ++ rest) → find (other_object v i) n k ≡ k + length xs
  ends_at [] [] k none_own none_later a = let c = a.count in find_past (other_object v i) n k (omega (arith, c)) ∙ none k
    where
      none : (k : ℕ) → k ≡ k + 0
      none k = omega arith
  ends_at [] (x ∷ rest) k none_own (one_later j h e) a =
      let c = a.count in
      find_here (other_object v i) n k (omega (arith, c)) (later_cell x rest k j a h e) ∙ none k
    where
      none : (k : ℕ) → k ≡ k + 0
      none k = omega arith
  ends_at (x ∷ xs) rest k (more_own o p) q a =
      let c = a.count in
      let next : From 9 value_cells v n (k + 1) (xs ++ rest) = from_append 9 value_cells value_width (x ∷ []) (xs ++ rest) refl a in
      find_next (other_object v i) n k (omega (arith, c)) (own_cell x (xs ++ rest) k a x.owner refl o)
      ∙ ends_at xs rest (k + 1) p q next ∙ along k (length xs)
    where
      along : (k m : ℕ) → (k + 1) + m ≡ k + suc m
      along k m = omega arith

-- THE LAW: the end of an object's rows.
pub object_ends : (v : List ℕ) (n i k : ℕ) (r : Resolved) (rs : List Resolved) → From 9 value_cells v n k (value_rows r k (of_object i) ++ all_value_rows rs (suc i) (k + how_many_values r))
    → object_end v n i k ≡ k + how_many_values r
unfolding object_end
object_ends v n i k r rs a =
    ends_at v n i (value_rows r k (of_object i)) (all_value_rows rs (suc i) (k + how_many_values r)) k (own_rows i r k (of_object i) own_object)
    (later_rows i (suc i) rs (k + how_many_values r) (omega arith)) a
    ∙ ap (λ (m : ℕ). k + m) (length_values r k (of_object i))
