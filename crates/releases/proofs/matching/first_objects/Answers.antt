use native.Mathlib.Omega.{arith}
use Rattle.releases.proofs.Telling.{first_start, first_next, first_end}
use Rattle.releases.proofs.matching.first_objects.Goals as goal

pub loop-i-init : goal.loop-i-init
loop-i-init c = first_start _ _ _ _ _ _ _ _ _ _ _ _ _ _ _

pub loop-i-preserved : goal.loop-i-preserved
loop-i-preserved c = first_next _ _ _ _ _ _ _ _ _ _ _ _ _ _ _ c.loop-i.all c.one_object-all.result c.loop-i.i c.loop-i.invariant (omega arith) c.one_object-all.ensures

pub returns : goal.returns
returns c = first_end _ _ _ _ _ _ _ _ _ _ _ _ _ _ _ _ c.loop-i.i c.loop-i.invariant (omega arith)
