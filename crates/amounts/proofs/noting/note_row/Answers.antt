-- `amounts::noting::note_row` meets its contract: no other row changes.
-- Assumes nothing.
use mathlib.Core.Path.{refl}
use native.Mathlib.Omega.{arith}
use Rattle.amounts.proofs.Rowwise.{row_same, row-two, row_none, row_list, end_inside}
use Rattle.amounts.proofs.noting.note_row.Goals as goal

pub returns-then-j-ge-MOST : goal.returns-then-j-ge-MOST
returns-then-j-ge-MOST c = row_same _ _ _ _

pub returns-then-range-eq0 : goal.returns-then-range-eq0
returns-then-range-eq0 c = row_same _ _ _ _

pub returns-then-s-eq46 : goal.returns-then-s-eq46
returns-then-s-eq46 c = row-two _ _ _ _ c.cell_of-range.ensures c.if-range-eq0.false _ _ _ c.item_at-o.ensures c.item_at-a.ensures c.item_at-s.ensures _ _ c.if-j-ge-MOST.false _ c.if-s-eq46.true c.item_at-b.ensures _ c.note_two.ensures

pub returns-then-t-used : goal.returns-then-t-used
returns-then-t-used c = row_same _ _ _ _

pub offset_bounds-t-used : goal.offset_bounds-t-used
offset_bounds-t-used c = omega (arith, c.well_formed, c.if-t-used.false)

pub returns-then-n-eq0 : goal.returns-then-n-eq0
returns-then-n-eq0 c = row_none _ _ _ _ c.cell_of-range.ensures c.if-range-eq0.false _ _ _ c.item_at-o.ensures c.item_at-a.ensures c.item_at-s.ensures _ _ c.if-j-ge-MOST.false _ _ c.is_signed-sign.ensures c.cell_of.ensures c.if-s-eq46.false _ _ c.put_sorted-n.ensures c.if-t-used.false

pub overflow_add-end : goal.overflow_add-end
overflow_add-end c = omega (arith, c.well_formed, end_inside _ c.args.d.now c.args.j _ c.cell_of-range.ensures c.if-range-eq0.false _ _ _ c.item_at-o.ensures c.item_at-a.ensures c.item_at-s.ensures c.args.t.now c.args.used c.if-j-ge-MOST.false _ _ c.is_signed-sign.ensures c.cell_of.ensures c.if-s-eq46.false _ _ c.put_sorted-n.ensures c.if-t-used.false)

pub returns : goal.returns
returns c = row_list _ _ _ _ c.cell_of-range.ensures c.if-range-eq0.false _ _ _ c.item_at-o.ensures c.item_at-a.ensures c.item_at-s.ensures _ _ c.if-j-ge-MOST.false _ _ c.is_signed-sign.ensures c.cell_of.ensures c.if-s-eq46.false _ _ c.put_sorted-n.ensures c.if-t-used.false c.if-n-eq0.false _ refl _ c.put_cells.ensures
