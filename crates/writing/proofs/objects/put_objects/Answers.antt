use Rattle.writing.proofs.Pairings.{objects_start, objects_more, objects_done}
use native.Mathlib.Omega.{arith}
use Rattle.writing.proofs.objects.put_objects.Goals as goal

pub loop-i-init : goal.loop-i-init
loop-i-init c = objects_start _ _ _ _ _ _ _ _ (omega arith)

pub loop-i-preserved : goal.loop-i-preserved
loop-i-preserved c = objects_more c.loop-i.invariant (omega arith) c.put_object-s.ensures

pub shape_of-out : goal.shape_of-out
shape_of-out c = c.loop-i.invariant.size

pub returns : goal.returns
returns c = objects_done c.loop-i.invariant (omega arith)
