-- The first 8 cells of the kept objects are the rows of the lent table. Assumes nothing.
use Prim.Native.Nat.{ℕ, ◌+◌}
use mathlib.Core.Path.{◌≡◌, refl, ap}
use mathlib.Core.List.{List, [], ◌∷◌, ◌++◌}
use lib.ListN.{take}
use Rattle.meaning.specs.Syntax.{span_of, Object, statements_in}
use Rattle.meaning.specs.Cells.{cells, object_cells as lent-cells}
use Rattle.meaning.specs.Applying.{object_rows as lent_rows}
use Rattle.layout.specs.Kept.{object_cells, object_rows}

pub object_heads : (os : List Object) (m : ℕ) → cells (take 8) (object_rows os m) ≡ cells lent-cells (lent_rows os)
unfolding object_rows object_cells lent_rows lent-cells span_of cells
object_heads [] m = refl
object_heads (x ∷ xs) m =
    ap (λ (t : List ℕ). take 8 (object_cells x m) ++ t) (object_heads xs (m + statements_in x.statements))
