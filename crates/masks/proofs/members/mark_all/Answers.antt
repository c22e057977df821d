use mathlib.Core.Path.{◌∙◌}
use native.Mathlib.Omega.{arith}
use Rattle.masks.proofs.Markings.{marking_start, marking_more, marking_end}
use Rattle.masks.proofs.members.mark_all.Goals as goal

pub loop-k-init : goal.loop-k-init
loop-k-init c = marking_start _ _ _ _

pub mark_one-requires : goal.mark_one-requires
mark_one-requires c = c.loop-k.invariant.size ∙ c.requires

pub loop-k-preserved : goal.loop-k-preserved
loop-k-preserved c = marking_more (omega arith) c.object_of-last.ensures c.mark_one.ensures c.loop-k.invariant

pub shape_of-marks : goal.shape_of-marks
shape_of-marks c = c.loop-k.invariant.size

pub returns : goal.returns
returns c = marking_end (omega arith) c.loop-k.invariant
