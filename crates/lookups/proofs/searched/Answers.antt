use Rattle.lookups.proofs.Blocks.{found_at}
use Rattle.lookups.proofs.searched.Goals as goal

pub returns : goal.returns
returns c = found_at _ c.args.t.now c.args.width c.args.name c.args.t.now c.args.i _ c.args.t.now c.args.t.now _ _ _ _ _ _ c.place_after-second.ensures c.row_start-start.ensures c.cell-at.ensures c.cell-len.ensures _ c.stated.ensures
