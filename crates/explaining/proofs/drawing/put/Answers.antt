-- `explaining::drawing::put` meets its contract: what is left to store decides the whole.
-- Assumes nothing.
use mathlib.Core.Path.{◌∙◌}
use Rattle.explaining.proofs.Stores.{puts_past}
use native.Mathlib.Omega.{arith}
use Rattle.explaining.proofs.drawing.put.Goals as goal

pub returns-then-out-j : goal.returns-then-out-j
returns-then-out-j c = puts_past _ c.loop-b.j _ _ c.loop-b.b-index (omega arith) ∙ c.loop-b.invariant
