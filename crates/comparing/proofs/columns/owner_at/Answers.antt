use Rattle.comparing.proofs.Columned.{owner_none, owner_low, owner_high}
use Rattle.comparing.proofs.columns.owner_at.Goals as goal

pub returns-then-cell_of-eq-OF_OBJECT : goal.returns-then-cell_of-eq-OF_OBJECT
returns-then-cell_of-eq-OF_OBJECT c = owner_none _ _ _ _ c.cell_of.ensures c.if-cell_of-eq-OF_OBJECT.true

pub returns-then-m-r : goal.returns-then-m-r
returns-then-m-r c = owner_low _ _ _ _ _ _ c.cell_of.ensures c.if-cell_of-eq-OF_OBJECT.false c.cell_of-2.ensures c.least_of-m.ensures c.if-m-r.true

pub returns : goal.returns
returns c = owner_high _ _ _ _ _ _ c.cell_of.ensures c.if-cell_of-eq-OF_OBJECT.false c.cell_of-2.ensures c.least_of-m.ensures c.if-m-r.false
