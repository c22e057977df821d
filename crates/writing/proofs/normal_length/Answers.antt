use Rattle.writing.proofs.Outputs.{measures}
use Rattle.writing.proofs.normal_length.Goals as goal

pub returns : goal.returns
returns c = measures c.write_normal.ensures
