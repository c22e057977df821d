use Rattle.merging.proofs.Turns.{merging_start, merging_more, merging_end}
use native.Mathlib.Omega.{arith}
use Rattle.merging.proofs.objects.merge.Goals as goal

pub loop-i-init : goal.loop-i-init
loop-i-init c = (omega arith, merging_start _ _ _ _ _ _)

pub loop-i-preserved : goal.loop-i-preserved
loop-i-preserved c = (omega (arith, c.merge_one-y.ensures.0), merging_more _ _ _ _ _ _ _ _ _ _ (c.loop-i.i) _ _ _ _ (omega arith) (c.merge_one-y.ensures.1) (c.loop-i.invariant.1))

pub returns : goal.returns
returns c = merging_end _ _ _ _ _ _ _ _ (c.loop-i.i) _ _ (omega arith) (omega arith) (c.loop-i.invariant.1)
