use Rattle.writing.proofs.Wholes.{writes_normal}
use Rattle.writing.proofs.write_normal.Goals as goal

pub returns : goal.returns
returns c = writes_normal c.put_bytes-a.ensures c.put_part-b.ensures c.put_bytes-c.ensures c.put_application.ensures
