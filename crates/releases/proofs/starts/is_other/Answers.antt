use Rattle.releases.proofs.Starting.{other_not, other_is}
use mathlib.Core.Path.{refl}
use Rattle.releases.proofs.starts.is_other.Goals as goal

pub returns-then-cell_of-ne-OF_OBJECT : goal.returns-then-cell_of-ne-OF_OBJECT
returns-then-cell_of-ne-OF_OBJECT c = other_not _ _ _ _ c.cell_of.ensures c.if-cell_of-ne-OF_OBJECT.true

pub returns : goal.returns
returns c = other_is _ _ _ _ _ _ c.cell_of.ensures c.if-cell_of-ne-OF_OBJECT.false c.cell_of-2.ensures refl
