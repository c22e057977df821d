use native.Mathlib.Omega.{arith}
use Rattle.masks.proofs.Rules.{none_started, started_end, started_more}
use Rattle.masks.proofs.turns.start_masks.Goals as goal

pub loop-i-init : goal.loop-i-init
loop-i-init c = none_started _ _

pub loop-i-preserved : goal.loop-i-preserved
loop-i-preserved c = started_more c.loop-i.masks c.loop-i.i _ (omega (arith, c.loop-i.invariant.size)) c.start_of.ensures c.loop-i.invariant

pub shape_of-masks : goal.shape_of-masks
shape_of-masks c = omega (arith, c.loop-i.invariant.size)

pub returns : goal.returns
returns c = started_end (omega (arith, c.loop-i.invariant.size)) c.loop-i.invariant
