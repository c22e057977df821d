-- `comparing::ordering::order` meets its contract: the cells of the rows, sorted.
-- Assumes nothing.
use Rattle.comparing.proofs.Sought.{ordered_of}
use native.Mathlib.Omega.{arith}
use Rattle.comparing.proofs.ordering.order.Goals as goal

pub returns : goal.returns
returns c = ordered_of _ _ _ _ _ c.requires.0 (omega (arith, c.fill.auto.x, c.requires.1.cells)) c.requires.1.beside c.fill.ensures c.sort.ensures
