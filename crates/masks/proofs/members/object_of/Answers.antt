use Rattle.masks.proofs.Markings.{object_own, object_last}
use Rattle.masks.proofs.members.object_of.Goals as goal

pub returns-then-cell_of-eq-OF_OBJECT : goal.returns-then-cell_of-eq-OF_OBJECT
returns-then-cell_of-eq-OF_OBJECT c = object_own _ _ _ _ _ c.cell_of.ensures c.if-cell_of-eq-OF_OBJECT.true c.cell_of-then-cell_of-eq-OF_OBJECT.ensures

pub returns : goal.returns
returns c = object_last _ _ _ _ c.cell_of.ensures c.if-cell_of-eq-OF_OBJECT.false
