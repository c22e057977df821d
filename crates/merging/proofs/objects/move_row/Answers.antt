use Rattle.merging.proofs.Moving.{moved_is}
use Rattle.merging.proofs.objects.move_row.Goals as goal

pub returns : goal.returns
returns c = moved_is _ _ _ _ _ _ _ _ _ _ _ _ _ _ _ c.cell_of-name.ensures c.cell_of-size.ensures c.cell_of-at.ensures c.cell_of-len.ensures c.cell_of-code.ensures c.cell_of-brace.ensures c.cell_of-next.ensures c.shifted-after.ensures c.put_row.ensures
