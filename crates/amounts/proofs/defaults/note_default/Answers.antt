-- `amounts::defaults::note_default` meets its contract.
-- Assumes nothing.
use Rattle.amounts.proofs.Remembering.{default_put}
use Rattle.amounts.proofs.defaults.note_default.Goals as goal

pub returns : goal.returns
returns c = default_put _ c.args.d.now c.args.t.now c.args.j c.if-j-ge-MOST.false c.number_at-n.result _ c.cell_of-2.ensures c.number_at-n.ensures _ c.sign_of-negative.ensures _ c.put_cells.ensures
