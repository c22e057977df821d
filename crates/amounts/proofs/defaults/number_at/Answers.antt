-- `amounts::defaults::number_at` meets its contract.
-- Assumes nothing.
use Rattle.amounts.proofs.Remembering.{remembered}
use Rattle.amounts.proofs.defaults.number_at.Goals as goal

pub returns : goal.returns
returns c = remembered _ c.args.d.now c.args.known.now c.requires c.args.j c.if-j-ge-MOST.false _ _ c.cell_of.ensures c.if-at-cell_of.false _ _ _ c.cell.ensures c.if-cell-ne1.false c.cell-negative.ensures c.cell-amount.ensures
