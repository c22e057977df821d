-- `judging::judge_object` meets its contract.
-- Assumes nothing.
use Rattle.judging.proofs.Judgements.{object_by}
use Rattle.judging.proofs.judge_object.Goals as goal

pub returns : goal.returns
returns c = object_by _ _ _ _ _ c.args.known.now _ c.args.places.now c.args.i c.cell_of-kind.result c.get-key.result c.cell_of-owner.result c.cell_of-from.result c.cell_of-end.result c.judge_block.result c.cell_of-kind.ensures c.get-key.ensures c.cell_of-owner.ensures c.cell_of-from.ensures c.cell_of-end.ensures c.judge_block.ensures
