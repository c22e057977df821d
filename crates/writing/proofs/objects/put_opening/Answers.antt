use Rattle.writing.proofs.Heads.{wrote_opening}
use Rattle.writing.proofs.objects.put_opening.Goals as goal

pub returns : goal.returns
returns c = wrote_opening _ _ _ _ _ _ _ c.cell_of-word.ensures c.cell_of-size.ensures c.cell_of-name.ensures c.cell_of-length.ensures c.put_part-a.ensures c.put_bytes-b.ensures c.put_part-c.ensures c.put_bytes.ensures
