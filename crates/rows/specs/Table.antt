-- Parts and cells of a list of numbers.
-- Assumes nothing.
use Rattle.std.specs.Prelude.{ℕ, ◌+◌, ◌*◌, List, get_or, take, drop}

-- the n elements of l from a on
abbrev pub part : List ℕ → ℕ → ℕ → List ℕ
part l a n = take n (drop a l)

-- the cell in column c of row i, of a table with rows of w cells
abbrev pub cell_of : List ℕ → (w i c : ℕ) → ℕ
cell_of t w i c = get_or t (i * w + c) 0
