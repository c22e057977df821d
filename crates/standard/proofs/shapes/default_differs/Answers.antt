use Rattle.standard.proofs.Defaulting.{default_none, default_not, default-too, default-new}
use Rattle.standard.proofs.shapes.default_differs.Goals as goal

pub returns-then-cell_of-eq0 : goal.returns-then-cell_of-eq0
returns-then-cell_of-eq0 c = default_none _ _ _ _ c.cell_of.ensures c.if-cell_of-eq0.true

pub returns-then-cell_of-eq-NO_DEFAULT : goal.returns-then-cell_of-eq-NO_DEFAULT
returns-then-cell_of-eq-NO_DEFAULT c = default_not _ _ _ _ c.cell_of.ensures _ c.cell_of-2.ensures c.if-cell_of-eq-NO_DEFAULT.true

pub returns-then-has-eq1 : goal.returns-then-has-eq1
returns-then-has-eq1 c = default-too _ _ _ _ c.cell_of.ensures _ c.cell_of-2.ensures c.if-cell_of-eq0.false c.if-cell_of-eq-NO_DEFAULT.false c.if-has-eq1.true

pub returns : goal.returns
returns c = default-new _ _ _ _ c.cell_of.ensures _ c.cell_of-2.ensures c.if-cell_of-eq0.false c.if-cell_of-eq-NO_DEFAULT.false c.if-has-eq1.false
