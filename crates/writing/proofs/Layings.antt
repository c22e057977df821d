-- Resolved values that stand in rows: what is the first row's, what stands under it and what behind. Assumes nothing.
use mathlib.Core.Path.{◌≡◌, refl, sym, ◌∙◌, ap, ap₂, subst}
use mathlib.Core.List.{List, [], ◌∷◌, ◌++◌, append_assoc}
use mathlib.Core.Bool.{Bool, true, false}
use Prim.Native.Nat.{ℕ, suc, ◌+◌, ◌≤◌, ◌<◌}
use native.Mathlib.Omega.{arith}
use native.Mathlib.Numerals.{add-one}
use lib.ListN.{length, get_or}
use lib.Dec.{eqb, ltb}
use borrow.Author.Tests.{eqb-true, eq-eqb}
use Rattle.rows.specs.Table.{cell_of}
use Rattle.rows.specs.Search.{row_name}
use Rattle.token.specs.Find.{pick, both, bit}
use Rattle.token.specs.Tokens.{part_of}
use Rattle.token.specs.Words.{bytes_of}
use Rattle.token.proofs.Bytes.{both_true, both_second}
use Rattle.meaning.specs.Syntax.{Word, span_of}
use Rattle.meaning.specs.Resolving.{Value, number, truth, auto, string, float, enumerator, object, Taken, Resolved, end, resolved, Owner, of_object, of_value, ValueRow, value_row, value_rows, how_many_values}
use Rattle.meaning.specs.Cells.{owner_sort, owner_row, value_sort, value_negative, value_amount, value_cells}
use Rattle.meaning.specs.Normal.{decimal, written}
use Rattle.meaning.proofs.Rooms.{value_width}
use Rattle.meaning.proofs.Entries.{length_values}
use Rattle.blocks.specs.Blocks.{WordIn}
use Rattle.writing.specs.Lines.{value_at, head_at, owned}
use Rattle.writing.specs.Promises.{From, AllTold, more_told, Earlier, Ends, ends, ends_before, Laid, LaidLine}
use Rattle.writing.proofs.Owners.{owned_row, owned_inside}
use Rattle.writing.proofs.Froms.{from_cell, from_append}

-- Owners -----------------------------------------------------------------------------------------------------------------------------------

same_owner : (a b : Owner) → owner_sort a ≡ owner_sort b → owner_row a ≡ owner_row b → a ≡ b
unfolding owner_sort owner_row
same_owner (of_object i) (of_object j) e q = ap of_object q
same_owner (of_object i) (of_value j) e q = absurd (omega arith)
same_owner (of_value i) (of_object j) e q = absurd (omega arith)
same_owner (of_value i) (of_value j) e q = ap of_value q

module _ (v : List ℕ) (n k sort row : ℕ) (o : Owner) (p : owner_sort o ≡ sort) (q : owner_row o ≡ row) where
  -- The first row, if it is o's, is found to be,
  pub is_owned : (x : ValueRow) (xs : List ValueRow) → From 9 value_cells v n k (x ∷ xs) → x.owner ≡ o → owned v n k sort row ≡ true
  unfolding value_cells
  is_owned x xs a e =
      let c = a.count in
      let f : owner_sort x.owner ≡ cell_of v 9 k 1 = sym (from_cell 9 value_cells value_width x xs 1 (omega arith) a) in
      let g : owner_row x.owner ≡ cell_of v 9 k 2 = sym (from_cell 9 value_cells value_width x xs 2 (omega arith) a) in
      sym (owned_row v n k sort row (owner_sort x.owner) (owner_row x.owner) (omega arith) f (ap owner_sort e ∙ p) g)
      ∙ eq-eqb (owner_row x.owner) row (ap owner_row e ∙ q)

  -- and where the rows end for o, none is.
  pub none_owned : (i : ℕ) (rest : List ValueRow) → From 9 value_cells v n k rest → Ends i o rest → owned v n k sort row ≡ true → ⊥
  unfolding owned value_cells
  none_owned i [] a e t =
      let c = a.count in
      let h = owned_inside v n k sort row t in
      omega arith
  none_owned i (x ∷ xs) a (ends_before d b) t =
      let u = both_second (ltb k n) (both (eqb (cell_of v 9 k 1) sort) (eqb (cell_of v 9 k 2) row)) t in
      let f : cell_of v 9 k 1 ≡ sort = eqb-true (cell_of v 9 k 1) sort (both_true (eqb (cell_of v 9 k 1) sort) (eqb (cell_of v 9 k 2) row) u) in
      let g : cell_of v 9 k 2 ≡ row = eqb-true (cell_of v 9 k 2) row (both_second (eqb (cell_of v 9 k 1) sort) (eqb (cell_of v 9 k 2) row) u) in
      d (same_owner x.owner o (sym (from_cell 9 value_cells value_width x xs 1 (omega arith) a) ∙ f ∙ sym p)
      (sym (from_cell 9 value_cells value_width x xs 2 (omega arith) a) ∙ g ∙ sym q))

-- Steps ------------------------------------------------------------------------------------------------------------------------------------

ends_on : {i j : ℕ} {o : Owner} {rest : List ValueRow} → i ≤ j → Ends i o rest → Ends j o rest
ends_on h ends = ends
ends_on h (ends_before d b) = ends_before d (λ m k. b m (omega arith))

-- What stands behind the values under row k ends them.
ends_under : (k m : ℕ) (o : Owner) (r : Resolved) (rest : List ValueRow) → Earlier k o → Ends k o rest → Ends (suc k) (of_value k) (value_rows r m o ++ rest)
unfolding value_rows value_row
ends_under k m o end [] h ends = ends
ends_under k m o end (x ∷ xs) h (ends_before d b) = ends_before (b k (omega arith)) (λ j i. b j (omega arith))
ends_under k m o (resolved t us r) rest h e = ends_before (h k (omega arith)) (λ j i. h j (omega arith))

module _ {s d v : List ℕ} {n k sort row : ℕ} {o : Owner} {t : Taken} {us r : Resolved} {rest : List ValueRow} where
  apart : Laid s d v n k sort row o (resolved t us r) rest
      → From 9 value_cells v n k (value_row t o ∷ (value_rows us (suc k) (of_value k) ++ (value_rows r (suc k + how_many_values us) o ++ rest)))
  unfolding value_rows
  apart a =
      subst (From 9 value_cells v n k) (ap (λ (l : List ValueRow). value_row t o ∷ l) (append_assoc (value_rows us (suc k) (of_value k)) (value_rows r (suc k + how_many_values us) o) rest))
      a.rows

  pub laid_line : Laid s d v n k sort row o (resolved t us r) rest → LaidLine s d v n k t o us (value_rows r (suc k + how_many_values us) o ++ rest)
  laid_line a = go a.told
    where
      go : AllTold s d (resolved t us r) → LaidLine s d v n k t o us (value_rows r (suc k + how_many_values us) o ++ rest)
      go (more_told x y z) = record { rows = apart a; ends = ends_under k (suc k + how_many_values us) o r rest a.earlier a.ends; told = x; under = y }

  pub laid_next : Laid s d v n k sort row o (resolved t us r) rest → (m : ℕ) → m ≡ suc k + how_many_values us → Laid s d v n m sort row o r rest
  laid_next a m e = go a.told
    where
      go : AllTold s d (resolved t us r) → Laid s d v n m sort row o r rest
      go (more_told x y z) =
          let l = length_values us (suc k) (of_value k) in
          let h = a.earlier in
          record {
            of_sort = a.of_sort;
            of_row = a.of_row;
            earlier = λ j i. h j (omega (arith, e, i));
            rows = subst (λ (i : ℕ). From 9 value_cells v n m (value_rows r i o ++ rest)) (sym e)
                (from_append 9 value_cells value_width (value_row t o ∷ value_rows us (suc k) (of_value k)) (value_rows r (suc k + how_many_values us) o ++ rest) (omega (arith, e, l)) (apart a));
            ends = ends_on (omega (arith, e)) a.ends;
            told = z;
          }

pub laid_under : {s d v : List ℕ} {n k : ℕ} {o : Owner} {t : Taken} {us : Resolved} {rest : List ValueRow} → LaidLine s d v n k t o us rest
    → Laid s d v n (k + 1) 1 k (of_value k) us rest
unfolding owner_sort owner_row
laid_under {s} {d} {v} {n} {k} {o} {t} {us} {rest} a =
    let e : suc k ≡ k + 1 = sym (add-one k) in
    record {
      of_sort = refl;
      of_row = refl;
      earlier = λ m i q. let z : k ≡ m = ap owner_row q in omega (arith, z, i);
      rows = subst (λ (i : ℕ). From 9 value_cells v n (k + 1) (value_rows us i (of_value k) ++ rest)) e
          (from_append 9 value_cells value_width (value_row t o ∷ []) (value_rows us (suc k) (of_value k) ++ rest) refl a.rows);
      ends = ends_on (omega arith) a.ends;
      told = a.under;
    }

-- The first row ----------------------------------------------------------------------------------------------------------------------------

pub flag_one : (b : Bool) → eqb (bit b) 1 ≡ b
unfolding bit
flag_one true = refl
flag_one false = refl

-- A value by its cells.
pub shown : (s : List ℕ) (x : Value) (t : Word) → WordIn s t
    → pick (eqb (value_sort x) 0) (decimal (record { negative = eqb (bit (value_negative x)) 1; amount = value_amount x })) (part_of s t.place t.length) ≡ written x t
unfolding value_sort value_negative value_amount written
shown s (number n) t h = ap (λ (b : Bool). decimal (record { negative = b; amount = n.amount })) (flag_one n.negative)
shown s (truth b) t h = sym h.bytes
shown s auto t h = sym h.bytes
shown s string t h = sym h.bytes
shown s float t h = sym h.bytes
shown s (enumerator e) t h = sym h.bytes
shown s (object e) t h = sym h.bytes

module _ {s d v : List ℕ} {n k : ℕ} {o : Owner} {t : Taken} {us : Resolved} {rest : List ValueRow} (a : LaidLine s d v n k t o us rest) where
  cell_is : (c : ℕ) → c < 9 → cell_of v 9 k c ≡ get_or (value_cells (value_row t o)) c 0
  cell_is c h = from_cell 9 value_cells value_width (value_row t o) (value_rows us (suc k) (of_value k) ++ rest) c h a.rows

  value_is : value_at s v k ≡ written t.value t.word
  unfolding value_at row_name value_cells value_row span_of
  value_is =
      rw (cell_is 3 (omega arith), cell_is 4 (omega arith), cell_is 5 (omega arith), cell_is 7 (omega arith), cell_is 8 (omega arith))
      (shown s t.value t.word a.told.word)

  -- Its name and value.
  pub head_is : head_at s d v k ≡ t.definition.name.bytes ++ (bytes_of " = " ++ written t.value t.word)
  unfolding head_at value_cells value_row
  head_is = ap₂ (λ (x y : List ℕ). x ++ (bytes_of " = " ++ y)) (ap (λ (j : ℕ). row_name s d 13 2 j) (cell_is 0 (omega arith)) ∙ a.told.name) value_is
