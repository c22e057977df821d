use native.Mathlib.Omega.{arith}
use Rattle.releases.proofs.Telling.{second_start, second_next, second_end}
use Rattle.releases.proofs.matching.second_objects.Goals as goal

pub loop-j-init : goal.loop-j-init
loop-j-init c = second_start _ _ _ _ _ _ _

pub loop-j-preserved : goal.loop-j-preserved
loop-j-preserved c = second_next _ _ _ _ _ _ _ c.loop-j.all c.one_added-all.result c.loop-j.j c.loop-j.invariant (omega arith) c.one_added-all.ensures

pub returns : goal.returns
returns c = second_end _ _ _ _ _ _ _ _ c.loop-j.j c.loop-j.invariant (omega arith)
