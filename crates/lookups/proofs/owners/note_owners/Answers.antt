use native.Mathlib.Omega.{arith}
use mathlib.Core.Path.{refl}
use lib.ListN.{length-set}
use Rattle.lookups.proofs.Owning.{owners_start, owners_more, owners_past}
use Rattle.lookups.proofs.owners.note_owners.Goals as goal

pub loop-i-init : goal.loop-i-init
loop-i-init c = (refl, owners_start _ _ _)

pub loop-i-preserved : goal.loop-i-preserved
loop-i-preserved c = (simp length-set c.loop-i.invariant.0, owners_more _ _ _ c.loop-i.i c.owner.result (omega arith) c.owner.ensures c.loop-i.invariant.1)

pub shape_of-owners : goal.shape_of-owners
shape_of-owners c = c.loop-i.invariant.0

pub returns : goal.returns
returns c = owners_past _ _ _ c.loop-i.i _ (omega arith) c.loop-i.invariant.1
