use Rattle.writing.proofs.Writes.{wrote_as}
use Rattle.writing.proofs.bytes.put_part.Goals as goal

pub returns : goal.returns
returns c = wrote_as c.part.ensures.bytes c.put_bytes.ensures
