use Rattle.writing.proofs.Heads.{wrote_head}
use Rattle.writing.proofs.values.put_head.Goals as goal

pub returns : goal.returns
returns c = wrote_head _ _ _ _ _ c.cell_of-j.ensures c.put_name-a.ensures c.put_bytes-b.ensures c.put_value.ensures
