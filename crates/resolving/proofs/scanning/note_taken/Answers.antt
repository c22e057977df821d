use native.Mathlib.Omega.{arith}
use mathlib.Core.Path.{refl}
use lib.ListN.{length-set}
use Rattle.resolving.proofs.Passing.{taken_start, taken_more, taken_past}
use Rattle.resolving.proofs.scanning.note_taken.Goals as goal

pub loop-i-init : goal.loop-i-init
loop-i-init c = (refl, taken_start _ _)

pub loop-i-preserved : goal.loop-i-preserved
loop-i-preserved c = (simp length-set c.loop-i.invariant.0, taken_more _ _ c.loop-i.i c.taken.result (omega arith) c.taken.ensures c.loop-i.invariant.1)

pub shape_of-marks : goal.shape_of-marks
shape_of-marks c = c.loop-i.invariant.0

pub returns : goal.returns
returns c = taken_past _ _ c.loop-i.i _ (omega arith) c.loop-i.invariant.1
