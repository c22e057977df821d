-- `amounts::noting::note_floats` meets its contract: no other row changes.
-- Assumes nothing.
use Rattle.amounts.proofs.Rowwise.{row_same, row_floats}
use Rattle.amounts.proofs.noting.note_floats.Goals as goal

pub returns-then-j-ge-MOST : goal.returns-then-j-ge-MOST
returns-then-j-ge-MOST c = λ used. row_same _ _ _ used

pub returns-then-range-eq0 : goal.returns-then-range-eq0
returns-then-range-eq0 c = λ used. row_same _ _ _ used

pub returns : goal.returns
returns c = row_floats _ c.args.d.now c.args.j _ c.cell_of-range.ensures c.if-range-eq0.false _ _ _ c.item_at-o.ensures c.item_at-a.ensures c.item_at-s.ensures _ _ c.float_at-low.ensures c.float_at-high.ensures c.args.t.now c.if-j-ge-MOST.false c.float_at-low.result.digits c.scale_of.result c.float_at-high.result.digits c.scale_of-2.result c.scale_of.ensures c.scale_of-2.ensures _ c.put_cells.ensures
