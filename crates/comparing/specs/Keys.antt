-- What a value counts as in a comparison, by its row. Assumes nothing.
use Rattle.std.specs.Prelude.{List, [], ◌∷◌, ℕ, ◌-◌, eqb}
use Rattle.token.specs.Find.{pick}
use Rattle.rows.specs.Table.{cell_of}
use Rattle.rows.specs.Search.{row_name}
use Rattle.token.specs.Tokens.{step_at}
use Rattle.meaning.specs.Syntax.{Num}
use Rattle.meaning.specs.Actions.{float_of_step}
use Rattle.comparing.specs.Contents.{num_key}

-- The kind of row i's reference: the code of its definition's type, less that of OS_TYPE.
unfoldable pub row_kind : (d v : List ℕ) → ℕ → ℕ
row_kind d v i = cell_of d 13 (cell_of v 9 i 0) 12 - 22

-- The float at the word of row i.
unfoldable pub row_float : (s v : List ℕ) → ℕ → Num
row_float s v i = float_of_step (step_at s (cell_of v 9 i 7))

-- Within the sort: sign and amount of a number, the amount of TRUE or FALSE, nothing of AUTO, kind and word of a reference, sign and amount of a
-- float, the word of any other.
unfoldable pub within : ℕ → (s d v : List ℕ) → ℕ → List ℕ
within sort s d v i =
    pick (eqb sort 0) (cell_of v 9 i 4 ∷ cell_of v 9 i 5 ∷ [])
    (pick (eqb sort 1) (cell_of v 9 i 5 ∷ [])
    (pick (eqb sort 2) []
    (pick (eqb sort 5) (row_kind d v i ∷ row_name s v 9 7 i)
    (pick (eqb sort 6) (num_key (row_float s v i))
    (row_name s v 9 7 i)))))

-- The key of row i of the table v, with the text s and the definitions d: two values count as the same if their keys are the same.
unfoldable pub row_key : (s d v : List ℕ) → ℕ → List ℕ
row_key s d v i = cell_of v 9 i 3 ∷ within (cell_of v 9 i 3) s d v i
