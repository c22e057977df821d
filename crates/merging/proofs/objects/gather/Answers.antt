use Rattle.merging.proofs.Turns.{gathering_start, gathering_more, gathering_end}
use native.Mathlib.Omega.{arith}
use Rattle.merging.proofs.objects.gather.Goals as goal

pub loop-j-init : goal.loop-j-init
loop-j-init c = (omega arith, omega arith, gathering_start _ _ _ _ _ _ _)

pub loop-j-preserved : goal.loop-j-preserved
loop-j-preserved c = (omega (arith, c.gather_one-y.ensures.0), omega arith, gathering_more _ _ _ _ _ _ _ _ (c.loop-j.j) _ _ _ _ _ (omega arith) (omega arith) (c.gather_one-y.ensures.1) (c.loop-j.invariant.2))

pub returns : goal.returns
returns c = gathering_end _ _ _ _ _ _ _ (c.loop-j.j) _ _ _ (omega arith) (omega arith) (omega arith) (c.loop-j.invariant.2)
