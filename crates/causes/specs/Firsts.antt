-- The first row of a table with the key and the name of another, by the cells of the rows. No part of the public contract. Assumes nothing.
use Rattle.std.specs.Prelude.{ℕ, ◌+◌, List}
use Rattle.rows.specs.Table.{cell_of}
use Rattle.rows.specs.Search.{find_row, find_named}
use Rattle.rows.specs.Found.{Found}
use Rattle.std.specs.Prelude.{Some, None}

-- The place in column m of the row that was found, 0 for none.
unfoldable pub name_at : List ℕ → (w m : ℕ) → Found → ℕ
name_at t w m (Some i) = cell_of t w i m
name_at t w m None = 0

-- Of the row j, whose name stands at p: the first row before it with the same in column c and the same name.
unfoldable pub like_row : (s t : List ℕ) → (w c m p : ℕ) → Found → ℕ
like_row s t w c m p (Some j) = name_at t w m (find_named s t w j c (cell_of t w j c) m p (cell_of t w j (m + 1)) 0)
like_row s t w c m p None = 0

-- Of n rows, the row whose name stands at p.
unfoldable pub first_like : (s t : List ℕ) → (w n c m p : ℕ) → ℕ
first_like s t w n c m p = like_row s t w c m p (find_row t w n m p 0)
