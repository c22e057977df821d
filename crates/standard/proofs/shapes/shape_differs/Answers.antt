use Rattle.standard.proofs.Shaped.{shape_differs_lem, other_type, other_mark, no_auto, auto-new, auto-too}
use Rattle.standard.proofs.shapes.shape_differs.Goals as goal

pub returns-then-cell_of-code : goal.returns-then-cell_of-code
returns-then-cell_of-code c = shape_differs_lem _ _ _ _ _ _ (other_type _ _ _ _ _ _ c.cell_of.ensures c.if-cell_of-code.true)

pub returns-then-cell_of-list : goal.returns-then-cell_of-list
returns-then-cell_of-list c = shape_differs_lem _ _ _ _ _ _ (other_mark _ _ _ _ _ _ c.cell_of.ensures c.if-cell_of-code.false _ c.cell_of-2.ensures c.if-cell_of-list.true)

pub returns-then-cell_of-ne1 : goal.returns-then-cell_of-ne1
returns-then-cell_of-ne1 c = shape_differs_lem _ _ _ _ _ _ (no_auto _ _ _ _ _ _ c.cell_of.ensures c.if-cell_of-code.false _ c.cell_of-2.ensures c.if-cell_of-list.false _ c.cell_of-3.ensures c.if-cell_of-ne1.true)

pub returns-then-auto-eq0 : goal.returns-then-auto-eq0
returns-then-auto-eq0 c = shape_differs_lem _ _ _ _ _ _ (auto-new _ _ _ _ _ _ c.cell_of.ensures c.if-cell_of-code.false _ c.cell_of-2.ensures c.if-cell_of-list.false _ c.cell_of-3.ensures c.if-cell_of-ne1.false c.if-auto-eq0.true)

pub returns : goal.returns
returns c = shape_differs_lem _ _ _ _ _ _ (auto-too _ _ _ _ _ _ c.cell_of.ensures c.if-cell_of-code.false _ c.cell_of-2.ensures c.if-cell_of-list.false _ c.cell_of-3.ensures c.if-cell_of-ne1.false c.if-auto-eq0.false)
