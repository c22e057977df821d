use Rattle.writing.proofs.bytes.put_digit.Goals as goal

pub returns : goal.returns
returns c = c.put_bytes.ensures
