use Rattle.dropping.proofs.Droppings.{object_by}
use native.Mathlib.Omega.{arith}
use Rattle.dropping.proofs.drop_object.Goals as goal

pub drop_block-requires : goal.drop_block-requires
drop_block-requires c = c.requires

pub shape_of-marks : goal.shape_of-marks
shape_of-marks c = omega (arith, c.drop_block.auto)

pub returns : goal.returns
returns c = object_by _ _ _ _ _ _ c.args.places.now c.args.i c.cell_of-kind.result c.get-key.result c.cell_of-from.result c.cell_of-end.result _ _ c.cell_of-kind.ensures c.get-key.ensures c.cell_of-from.ensures c.cell_of-end.ensures c.drop_block.ensures
