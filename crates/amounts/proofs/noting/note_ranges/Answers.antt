-- `amounts::noting::note_ranges` meets its contract: the rows noted so far are right.
-- Assumes nothing.
use mathlib.Core.Path.{refl}
use native.Mathlib.Omega.{arith}
use Rattle.amounts.proofs.Rowwise.{rows_start, rows_more, rows_end}
use Rattle.amounts.proofs.noting.note_ranges.Goals as goal

pub loop-j-init : goal.loop-j-init
loop-j-init c = (rows_start _ _ _, refl)

pub loop-j-preserved : goal.loop-j-preserved
loop-j-preserved c = (rows_more _ _ _ _ _ _ _ c.loop-j.invariant.0 c.note_range-used.ensures, omega (arith, c.note_range-used.auto, c.loop-j.invariant.1))

pub shape_of-t : goal.shape_of-t
shape_of-t c = c.loop-j.invariant.0.size

pub shape_of-spare : goal.shape_of-spare
shape_of-spare c = c.loop-j.invariant.1

pub returns : goal.returns
returns c = rows_end _ _ _ _ _ c.loop-j.invariant.0
