-- Resolved values as rows in a table of 2,048 rows: those past its end are not stored, and are not counted past 2,049. Assumes nothing.
use Rattle.std.specs.Prelude.{◌≡◌, List, ℕ, ◌+◌, ◌*◌, min}
use Rattle.std.proofs.lemmas.List.Edits.{sets}
use Rattle.token.specs.Find.{bit}
use Rattle.meaning.specs.Resolving.{Value as ValueOf, Resolved, Owner, value_rows, how_many_values, all_value_rows, how_many_in_all}
use Rattle.meaning.specs.Cells.{cells, value_cells, owner_sort, owner_row, value_sort, value_negative, value_amount}
use Rattle.resolving.specs.declared.Owner.{Owner as OwnerOf}
use Rattle.resolving.specs.declared.Owner.TheVariants.{Object, Value}
use Rattle.resolving.specs.declared.Held.{Held}
use Rattle.resolving.specs.declared.Held.TheVariants.{Number, Truth, Auto, String, Enumerator, Object as HeldObject, Float}

-- The values r of an owner are the rows from n on, and n' is the number of the row after them.
pub record Wrote (v : List ℕ) (n : ℕ) (r : Resolved) (o : Owner) (v' : List ℕ) (n' : ℕ) : Type 0 where
  pub table : v' ≡ sets v (n * 9) (cells value_cells (value_rows r n o))
  pub count : n' ≡ min 2049 (n + how_many_values r)

-- Those of all objects, of which the first is row 0.
pub record WroteAll (v : List ℕ) (rs : List Resolved) (v' : List ℕ) (n' : ℕ) : Type 0 where
  pub table : v' ≡ sets v 0 (cells value_cells (all_value_rows rs 0 0))
  pub count : n' ≡ min 2049 (how_many_in_all rs)

-- The two cells of an owner: 0 for an object and 1 for a value, and the row.
abbrev pub sort_cell : OwnerOf → ℕ
sort_cell (Object i) = 0
sort_cell (Value k) = 1

abbrev pub row_cell : OwnerOf → ℕ
row_cell (Object i) = i
row_cell (Value k) = k

-- w is the owner o.
pub record Owns (w : OwnerOf) (o : Owner) : Type 0 where
  pub sort : sort_cell w ≡ owner_sort o
  pub row : row_cell w ≡ owner_row o

-- The three cells of a value: its sort, 1 where it is negative, and its amount.
abbrev pub held_sort : Held → ℕ
held_sort (Number n a) = 0
held_sort (Truth b) = 1
held_sort Auto = 2
held_sort String = 3
held_sort (Enumerator m) = 4
held_sort (HeldObject m) = 5
held_sort Float = 6

abbrev pub held_negative : Held → ℕ
held_negative (Number n a) = n
held_negative (Truth b) = 0
held_negative Auto = 0
held_negative String = 0
held_negative (Enumerator m) = 0
held_negative (HeldObject m) = 0
held_negative Float = 0

abbrev pub held_amount : Held → ℕ
held_amount (Number n a) = a
held_amount (Truth b) = bit b
held_amount Auto = 0
held_amount String = 0
held_amount (Enumerator m) = m
held_amount (HeldObject m) = m
held_amount Float = 0

-- h is the value x.
pub record Holds (h : Held) (x : ValueOf) : Type 0 where
  pub sort : held_sort h ≡ value_sort x
  pub negative : held_negative h ≡ bit (value_negative x)
  pub amount : held_amount h ≡ value_amount x
