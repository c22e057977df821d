-- Lookups by key over rows. A cell past the end of the list is 0.
-- Assumes nothing.
use Rattle.std.specs.Prelude.{ℕ, ◌+◌, ◌*◌, Bool, true, false, List, get_or, eqb, ltb}
use Rattle.token.specs.Find.{pick, both, find}
use Rattle.token.specs.Words.{same}
use Rattle.token.specs.Tokens.{part_of}
use Rattle.rows.specs.Table.{cell_of}
use Rattle.rows.specs.Found.{Found}
use Rattle.std.specs.Prelude.{Some, None}

-- a row that was found below n
unfoldable pub found_below : ℕ → ℕ → Found
found_below n i = pick (ltb i n) (Some i) None

-- the first row from i on, below n, for which t holds
unfoldable pub find_from : (ℕ → Bool) → ℕ → ℕ → Found
find_from t n i = found_below n (find t n i)

-- the part of the text s whose place and length stand in columns m and m + 1 of row i, of a table with rows of w cells
unfoldable pub row_name : List ℕ → List ℕ → (w m i : ℕ) → List ℕ
row_name s t w m i = part_of s (cell_of t w i m) (cell_of t w i (m + 1))

-- the cell in column c of the row that begins at a is k
unfoldable pub has_key : List ℕ → ℕ → ℕ → ℕ → Bool
has_key l a c k = eqb (get_or l (a + c) 0) k

-- and the name whose place and length stand in columns m and m2 is the same bytes as the part of the text s
unfoldable pub is_named : List ℕ → List ℕ → ℕ → ℕ → ℕ → ℕ → ℕ → ℕ → ℕ → Bool
is_named s l a c k m m2 p n = both (has_key l a c k) (same (part_of s (get_or l (a + m) 0) (get_or l (a + m2) 0)) (part_of s p n))

-- the first row from i on, below n, whose cell in column c is k
unfoldable pub find_row : List ℕ → ℕ → ℕ → ℕ → ℕ → ℕ → Found
find_row l w n c k i = find_from (λ j. has_key l (j * w) c k) n i

-- the first row from i on, below n, whose cell in column c is k and whose name, in columns m and m + 1, is the part of s
unfoldable pub find_named : List ℕ → List ℕ → ℕ → ℕ → ℕ → ℕ → ℕ → ℕ → ℕ → ℕ → Found
find_named s l w n c k m p len i = find_from (λ j. is_named s l (j * w) c k m (m + 1) p len) n i

-- something was found
abbrev pub is_found : Found → Bool
is_found (Some i) = true
is_found None = false

-- the row that was found, 0 for none
unfoldable pub row_of : Found → ℕ
row_of (Some i) = i
row_of None = 0
