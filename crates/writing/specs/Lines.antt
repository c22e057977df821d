-- What a row of the tables stands for in the text. Assumes nothing.
use Rattle.std.specs.Prelude.{List, ◌++◌, Bool, ℕ, eqb, ltb}
use Rattle.rows.specs.Search.{row_name}
use Rattle.rows.specs.Table.{cell_of}
use Rattle.token.specs.Find.{pick, both}
use Rattle.token.specs.Words.{bytes_of}
use Rattle.meaning.specs.Normal.{decimal, written, closed, lines}
use Rattle.meaning.specs.Resolving.{Taken, Resolved}
use Rattle.meaning.specs.Syntax.{Object}

-- The value in row k of the table v.
unfoldable pub value_at : (s v : List ℕ) → ℕ → List ℕ
value_at s v k =
    pick (eqb (cell_of v 9 k 3) 0)
    (decimal (record { negative = eqb (cell_of v 9 k 4) 1; amount = cell_of v 9 k 5 }))
    (row_name s v 9 7 k)

-- The name of its definition, which stands in the table d, and the value.
unfoldable pub head_at : (s d v : List ℕ) → ℕ → List ℕ
head_at s d v k = row_name s d 13 2 (cell_of v 9 k 0) ++ (bytes_of " = " ++ value_at s v k)

-- Whether row k is one of the first n and has this owner.
unfoldable pub owned : (v : List ℕ) (n k sort row : ℕ) → Bool
owned v n k sort row = both (ltb k n) (both (eqb (cell_of v 9 k 1) sort) (eqb (cell_of v 9 k 2) row))

-- The lines of a value and of what is under it.
unfoldable pub line : Taken → Resolved → List ℕ
line t us = t.definition.name.bytes ++ (bytes_of " = " ++ (written t.value t.word ++ closed us (lines us)))

-- The kind word and the name of object i of the table o.
unfoldable pub opening_at : (s o : List ℕ) → ℕ → List ℕ
opening_at s o i = row_name s o 8 1 i ++ (bytes_of " " ++ (row_name s o 8 3 i ++ bytes_of " {\n"))

-- The lines of an object with its values.
unfoldable pub object_line : Object → Resolved → List ℕ
object_line x r = x.word.bytes ++ (bytes_of " " ++ (x.name.bytes ++ (bytes_of " {\n" ++ (lines r ++ bytes_of "};\n"))))
