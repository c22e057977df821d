-- What the checks of single rows give, from the cells of the rows. Assumes nothing.
use Rattle.std.specs.Prelude.{List, Bool, false, ℕ, get_or, ltb, leb, Option, Some, None}
use Rattle.rows.specs.Table.{cell_of}
use Rattle.rows.specs.Found.{Found}
use Rattle.rows.specs.Order.{MaybeFault, fault_if}
use Rattle.rows.specs.Search.{find_from}
use Rattle.meaning.specs.Kinds.{fewest}
use Rattle.kinds.specs.Kinds.{kind_at}

-- The first kind from i on with fewer objects than its fewest.
unfoldable pub lacking_from : List ℕ → ℕ → Found
lacking_from cs i = find_from (λ j. ltb (get_or cs j 0) (fewest (kind_at j))) 13 i

-- Where n objects are a kind's most, one more is too many.
unfoldable pub full_of : Option ℕ → ℕ → Bool
full_of (Some m) n = leb m n
full_of None n = false

-- The fault n at the row that is one too many, where there are more than `last` rows.
unfoldable pub room_fault : List ℕ → (w last c rows n : ℕ) → MaybeFault
room_fault l w last c rows n = fault_if (ltb last rows) n (cell_of l w last c)
