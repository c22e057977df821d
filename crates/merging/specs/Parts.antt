-- The first part of the object that a row is a part of, by the rows of parts. Assumes nothing.
use Rattle.std.specs.Prelude.{◌≡◌, List, [], ◌∷◌, ℕ, zero, suc, ◌≤◌, ◌<◌, get_or, replicate}
use Rattle.std.proofs.lemmas.List.Edits.{sets}
use Rattle.rows.specs.Table.{cell_of}
use Rattle.rows.specs.Search.{find_named}
use Rattle.rows.specs.Found.{Found}
use Rattle.std.specs.Prelude.{Some, None}

-- The row that was found, or else row j.
unfoldable pub row_or : ℕ → Found → ℕ
row_or j (Some i) = i
row_or j None = j

-- The first row before row j that has its name and the same in column c; row j itself where there is none. Column 0 is the kind; in a column
-- past the table, as `length p`, all rows have 0, so that the name alone counts.
unfoldable pub first_row : (c : ℕ) → (s p : List ℕ) → ℕ → ℕ
first_row c s p j = row_or j (find_named s p 10 j c (cell_of p 10 j c) 3 (cell_of p 10 j 3) (cell_of p 10 j 4) 0)

-- Those of m rows from row j on.
unfoldable pub first_rows : (c : ℕ) → (s p : List ℕ) → (m j : ℕ) → List ℕ
first_rows c s p zero j = []
first_rows c s p (suc m) j = first_row c s p j ∷ first_rows c s p m (suc j)

-- x has them for the first n rows.
abbrev pub FirstRows : (c : ℕ) → (s p : List ℕ) → ℕ → List ℕ → Type 0
FirstRows c s p n x = n ≤ 513 → x ≡ sets (replicate 513 0) 0 (first_rows c s p n 0)
