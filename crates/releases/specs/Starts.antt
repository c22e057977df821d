-- Where the rows of each object's values begin and end among those of all objects. Assumes nothing.
use Rattle.std.specs.Prelude.{List, Bool, not, ℕ, zero, suc, ◌+◌, ◌-◌, min, eqb, get_or}
use Rattle.token.specs.Find.{both, find}
use Rattle.rows.specs.Table.{cell_of}

-- Row j is that of a value of another object than i.
unfoldable pub other_object : List ℕ → (i j : ℕ) → Bool
other_object v i j = both (eqb (cell_of v 9 j 1) 0) (not (eqb (cell_of v 9 j 2) i))

-- The row after those of object i, which begin at row k, of n rows.
unfoldable pub object_end : List ℕ → (n i k : ℕ) → ℕ
object_end v n i k = find (other_object v i) n k

-- The first row of object i.
unfoldable pub start_at : List ℕ → (n i : ℕ) → ℕ
start_at v n zero = 0
start_at v n (suc i) = object_end v n i (start_at v n i)

-- One more than a number of an object.
unfoldable pub one_more : ℕ → ℕ
one_more i = min 65536 (i + 1)

-- The first row of object i by the cells st, and how many rows it has.
unfoldable pub first_row : List ℕ → ℕ → ℕ
first_row st i = min (get_or st i 0) 2048

unfoldable pub many_rows : List ℕ → ℕ → ℕ
many_rows st i = first_row st (one_more i) - first_row st i
