use Rattle.attribute_values.proofs.Reading.{unmarked, of_single, of_list}
use Rattle.attribute_values.proofs.entries.is_picked.Goals as goal

pub returns-then-mark-eq0 : goal.returns-then-mark-eq0
returns-then-mark-eq0 c = unmarked _ _ _ _ _ c.if-mark-eq0.true

pub returns-then-cell_of-ne1 : goal.returns-then-cell_of-ne1
returns-then-cell_of-ne1 c = of_single _ _ _ _ _ c.if-mark-eq0.false _ _ c.cell_of-j.ensures c.cell_of.ensures c.if-cell_of-ne1.true

pub returns : goal.returns
returns c = of_list _ _ _ _ _ c.if-mark-eq0.false _ _ c.cell_of-j.ensures c.cell_of.ensures c.if-cell_of-ne1.false _ c.is_mark.ensures
