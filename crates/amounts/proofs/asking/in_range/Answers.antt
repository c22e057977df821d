-- `amounts::asking::in_range` meets its contract: by the table, or by the text.
-- Assumes nothing.
use Rattle.scopes.specs.Items.{num}
use Rattle.amounts.specs.Known.{num_in}
use Rattle.amounts.proofs.Answers.{by_text, below, not_below, by_list}
use Rattle.amounts.proofs.asking.in_range.Goals as goal

pub returns-then-j-ge-MOST : goal.returns-then-j-ge-MOST
returns-then-j-ge-MOST c = by_text c.args.text.now c.args.d.now c.args.j _ (num c.args.n) _ c.cell_of-range.ensures c.in_range.ensures

pub returns-then-not-at_most : goal.returns-then-not-at_most
unfolding num_in
returns-then-not-at_most c = below _ c.args.d.now c.args.known.now c.requires c.args.j c.if-j-ge-MOST.false (num c.args.n) c.cell-sort.result c.cell.result c.cell-then-sort-eq-BOUNDS.result c.cell-sort.ensures c.cell.ensures c.cell-then-sort-eq-BOUNDS.ensures c.if-sort-eq-BOUNDS.true _ c.at_most.ensures c.if-not-at_most.true

pub returns-then-sort-eq-BOUNDS : goal.returns-then-sort-eq-BOUNDS
unfolding num_in
returns-then-sort-eq-BOUNDS c = not_below _ c.args.d.now c.args.known.now c.requires c.args.j c.if-j-ge-MOST.false (num c.args.n) c.cell-sort.result c.cell.result c.cell-then-sort-eq-BOUNDS.result c.cell-sort.ensures c.cell.ensures c.cell-then-sort-eq-BOUNDS.ensures c.if-sort-eq-BOUNDS.true _ c.at_most.ensures c.if-not-at_most.false c.cell-then-sort-eq-BOUNDS-2.result c.cell-then-sort-eq-BOUNDS-3.result c.cell-then-sort-eq-BOUNDS-2.ensures c.cell-then-sort-eq-BOUNDS-3.ensures _ c.at_most-then-sort-eq-BOUNDS.ensures

pub returns-then-sort-ne-LIST : goal.returns-then-sort-ne-LIST
returns-then-sort-ne-LIST c = by_text c.args.text.now c.args.d.now c.args.j _ (num c.args.n) _ c.cell_of-range.ensures c.in_range-then-sort-ne-LIST.ensures

pub returns-then-not-has_key : goal.returns-then-not-has_key
returns-then-not-has_key c = by_text c.args.text.now c.args.d.now c.args.j _ (num c.args.n) _ c.cell_of-range.ensures c.in_range-then-not-has_key.ensures

pub returns-then-end-from : goal.returns-then-end-from
returns-then-end-from c = by_text c.args.text.now c.args.d.now c.args.j _ (num c.args.n) _ c.cell_of-range.ensures c.in_range-then-end-from.ensures

pub returns-then-known-end : goal.returns-then-known-end
returns-then-known-end c = by_text c.args.text.now c.args.d.now c.args.j _ (num c.args.n) _ c.cell_of-range.ensures c.in_range-then-known-end.ensures

pub returns : goal.returns
returns c = by_list _ c.args.d.now c.args.known.now c.requires c.args.j c.if-j-ge-MOST.false (num c.args.n) c.cell-sort.result c.cell-from.result c.cell-end.result c.cell-sort.ensures c.cell-from.ensures c.cell-end.ensures c.if-sort-ne-LIST.false _ c.cell_of.ensures _ c.is_signed-sign.ensures _ c.has_key.ensures c.if-not-has_key.false _ c.key.ensures _ c.has.ensures
