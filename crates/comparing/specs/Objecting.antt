-- Objects matched by kind and name, by their rows. Assumes nothing.
use Rattle.std.specs.Prelude.{List, ℕ}
use Rattle.rows.specs.Table.{cell_of}
use Rattle.rows.specs.Search.{row_name}
use Rattle.rows.specs.Found.{Found}
use Rattle.indexes.specs.Indexing.{FindsWord}

-- r is the first object of the second text with the kind and the name of object i of the first; x is the index of the second's objects.
unfoldable pub FindsObject : (s o : List ℕ) (i : ℕ) (s2 o2 x : List ℕ) → Found → Type 0
FindsObject s o i s2 o2 x r = FindsWord s2 o2 8 0 (cell_of o 8 i 0) 3 (row_name s o 8 3 i) x r
