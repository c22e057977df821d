-- The cells of a row. Assumes nothing.
use Prim.Native.Nat.{ℕ, ◌+◌, ◌<◌}
use mathlib.Core.Path.{◌≡◌, ◌∙◌}
use mathlib.Core.List.{List}
use lib.ListN.{drop, get_or}
use lib.Seq.{get_or-take, get_or-drop}
use Rattle.rows.specs.Table.{part}

-- a column of a row
pub cell_of_lem : (l : List ℕ) (a w c : ℕ) → c < w → get_or (part l a w) c 0 ≡ get_or l (a + c) 0
cell_of_lem l a w c h = get_or-take w (drop a l) c 0 h ∙ get_or-drop a l c 0
