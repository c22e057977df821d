use Rattle.dropping.proofs.Droppings.{objects_start, objects_more, objects_end}
use mathlib.Core.Path.{refl}
use native.Mathlib.Omega.{arith}
use Rattle.dropping.proofs.drop_objects.Goals as goal

pub loop-i-init : goal.loop-i-init
loop-i-init c = (refl, objects_start _ _ _ _ _ _ c.args.places.now _)

pub drop_object-requires : goal.drop_object-requires
drop_object-requires c = c.requires

pub loop-i-preserved : goal.loop-i-preserved
loop-i-preserved c = (omega (arith, c.drop_object.auto, c.loop-i.invariant.0), objects_more _ _ _ _ _ _ c.args.places.now c.loop-i.i _ _ _ (omega arith) c.drop_object.ensures c.loop-i.invariant.1)

pub shape_of-marks : goal.shape_of-marks
shape_of-marks c = c.loop-i.invariant.0

pub returns : goal.returns
returns c = objects_end _ _ _ _ _ _ c.args.places.now c.loop-i.i _ _ (omega arith) c.loop-i.invariant.1
