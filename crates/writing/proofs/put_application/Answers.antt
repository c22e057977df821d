use Rattle.writing.proofs.Wholes.{puts_application}
use Rattle.writing.proofs.put_application.Goals as goal

pub returns : goal.returns
returns c = puts_application c.put_bytes-a.ensures c.put_part-b.ensures c.put_bytes-c.ensures c.put_objects-e.ensures c.put_bytes.ensures
