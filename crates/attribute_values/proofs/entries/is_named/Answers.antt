use Rattle.attribute_values.proofs.Reading.{other_sort, other_row, own_row}
use Rattle.attribute_values.proofs.entries.is_named.Goals as goal

pub returns-then-cell_of-sort : goal.returns-then-cell_of-sort
returns-then-cell_of-sort c = other_sort _ _ _ _ _ _ _ _ c.cell_of.ensures c.if-cell_of-sort.true

pub returns-then-cell_of-row : goal.returns-then-cell_of-row
returns-then-cell_of-row c = other_row _ _ _ _ _ _ _ _ c.cell_of.ensures _ c.if-cell_of-sort.false c.cell_of-2.ensures c.if-cell_of-row.true

pub returns : goal.returns
returns c = own_row _ _ _ _ _ _ _ _ c.cell_of.ensures _ _ _ _ _ _ c.if-cell_of-sort.false c.cell_of-2.ensures c.if-cell_of-row.false c.cell_of-j.ensures c.cell_of-place.ensures c.cell_of-length.ensures c.part.ensures.bytes c.same_bytes.ensures
