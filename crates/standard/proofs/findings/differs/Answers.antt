use Rattle.standard.proofs.Differing.{shape_other, default_other, wider_decides}
use Rattle.standard.proofs.findings.differs.Goals as goal

pub returns-then-shape_differs : goal.returns-then-shape_differs
returns-then-shape_differs c = shape_other _ _ _ _ _ _ _ _ _ _ _ _ c.cell_of-code.ensures c.cell_of-list.ensures c.cell_of-auto.ensures _ c.shape_differs.ensures c.if-shape_differs.true

pub returns-then-default_differs : goal.returns-then-default_differs
returns-then-default_differs c = default_other _ _ _ _ _ _ _ _ _ _ _ _ c.cell_of-code.ensures c.cell_of-list.ensures c.cell_of-auto.ensures _ c.shape_differs.ensures c.if-shape_differs.false _ c.cell_of.ensures _ c.default_differs.ensures c.if-default_differs.true

pub returns : goal.returns
returns c = wider_decides _ _ _ _ _ _ _ _ _ _ _ _ c.cell_of-code.ensures c.cell_of-list.ensures c.cell_of-auto.ensures _ c.shape_differs.ensures c.if-shape_differs.false _ c.cell_of.ensures _ c.default_differs.ensures c.if-default_differs.false _ c.wider.ensures
