use native.Mathlib.Omega.{arith}
use Rattle.masks.proofs.Storing.{filled_none, filled_more, filled_end}
use Rattle.masks.proofs.members.fill_given.Goals as goal

pub loop-j-init : goal.loop-j-init
loop-j-init c = filled_none _ _ _ _ _ _

pub put_given-requires : goal.put_given-requires
put_given-requires c = omega (arith, c.loop-j.invariant.size, c.requires)

pub loop-j-preserved : goal.loop-j-preserved
loop-j-preserved c = filled_more _ _ c.get.ensures c.find_mask-found.ensures c.put_given.ensures c.loop-j.invariant

pub shape_of-given : goal.shape_of-given
shape_of-given c = c.loop-j.invariant.size

pub returns : goal.returns
returns c = filled_end c.loop-j.j _ (omega arith) c.loop-j.invariant
