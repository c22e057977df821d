-- Rows copied one by one, as the inner functions promise it of any table. Assumes nothing.
use Rattle.std.specs.Prelude.{List, [], ◌∷◌, ◌++◌, ℕ, zero, suc, ◌*◌, get_or}
use Rattle.rows.specs.Search.{find_row, row_of}

-- The c cells from place a on, for what one row gives; a cell past the end is 0.
unfoldable pub cells_from : List ℕ → (a c : ℕ) → List ℕ
cells_from l a zero = []
cells_from l a (suc c) = get_or l a 0 ∷ cells_from l (suc a) c

-- What g makes of the first c cells of each of n rows of w cells, from row i on: what a loop over rows stores.
unfoldable pub each_row : (List ℕ → List ℕ) → List ℕ → (w c i n : ℕ) → List ℕ
each_row g l w c i zero = []
each_row g l w c i (suc n) = g (cells_from l (i * w) c) ++ each_row g l w c (suc i) n

-- For definitions and objects: the cells as they are.
unfoldable pub as_is : List ℕ → List ℕ
as_is r = r

-- For enumerators: the first of the n definitions kept in d whose list has the key k.
unfoldable pub attribute_of : List ℕ → (n k : ℕ) → ℕ
attribute_of d n k = row_of (find_row d 19 n 14 k 0)

-- For enumerators: that row in place of the list's key.
unfoldable pub attributed : List ℕ → ℕ → List ℕ → List ℕ
attributed d n [] = []
attributed d n (k ∷ r) = attribute_of d n k ∷ r
