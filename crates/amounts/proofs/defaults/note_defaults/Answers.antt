-- `amounts::defaults::note_defaults` meets its contract.
-- Assumes nothing.
use Rattle.amounts.proofs.Remembering.{rows_start, rows_more}
use Rattle.amounts.proofs.defaults.note_defaults.Goals as goal

pub loop-j-init : goal.loop-j-init
loop-j-init c = rows_start _ _ _

pub loop-j-preserved : goal.loop-j-preserved
loop-j-preserved c = rows_more _ _ _ _ _ c.loop-j.invariant c.note_default.ensures

pub shape_of-t : goal.shape_of-t
shape_of-t c = c.loop-j.invariant.size

pub returns : goal.returns
returns c = c.loop-j.invariant.known
