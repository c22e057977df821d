-- `amounts::asking::in_floats` meets its contract: by the table, or by the text.
-- Assumes nothing.
use Rattle.amounts.proofs.Answers.{floats_by_text, float_below, float-not-below}
use Rattle.scopes.specs.Items.{real}
use Rattle.amounts.proofs.asking.in_floats.Goals as goal

pub returns-then-j-ge-MOST : goal.returns-then-j-ge-MOST
returns-then-j-ge-MOST c = floats_by_text c.args.text.now c.args.d.now c.args.j _ (real c.args.f) _ c.cell_of-range.ensures c.in_range.ensures

pub returns-then-cell-ne-FLOATS : goal.returns-then-cell-ne-FLOATS
returns-then-cell-ne-FLOATS c = floats_by_text c.args.text.now c.args.d.now c.args.j _ (real c.args.f) _ c.cell_of-range.ensures c.in_range-then-cell-ne-FLOATS.ensures

pub returns-then-not-at_most : goal.returns-then-not-at_most
returns-then-not-at_most c = float_below _ c.args.d.now c.args.known.now c.requires c.args.j c.if-j-ge-MOST.false (real c.args.f) c.cell.result c.cell-2.result c.cell-3.result c.cell.ensures c.cell-2.ensures c.cell-3.ensures c.if-cell-ne-FLOATS.false _ c.float_in-low.ensures _ c.at_most.ensures c.if-not-at_most.true

pub returns : goal.returns
returns c = float-not-below _ c.args.d.now c.args.known.now c.requires c.args.j c.if-j-ge-MOST.false (real c.args.f) c.cell.result c.cell-2.result c.cell-3.result c.cell.ensures c.cell-2.ensures c.cell-3.ensures c.if-cell-ne-FLOATS.false _ c.float_in-low.ensures _ c.at_most.ensures c.if-not-at_most.false c.cell-4.result c.cell-5.result c.cell-4.ensures c.cell-5.ensures _ c.float_in-high.ensures _ c.at_most-2.ensures
