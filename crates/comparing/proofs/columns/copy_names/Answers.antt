-- `comparing::columns::copy_names` meets its contract.
-- Assumes nothing.
use Rattle.comparing.proofs.Columned.{holds_more, name_is}
use native.Mathlib.Omega.{arith}
use Rattle.comparing.proofs.columns.copy_names.Goals as goal

pub loop-i-preserved : goal.loop-i-preserved
loop-i-preserved c = holds_more _ _ _ _ c.loop-i.invariant (omega arith) (name_is _ _ _ _ _ _ _ c.cell_of-j.ensures c.get.ensures c.least_of.ensures)
