use Rattle.mending.proofs.Sayings.{puts_line}
use Rattle.mending.proofs.telling.put_line.Goals as goal

pub returns : goal.returns
returns c = puts_line _ _ _ c.put_field-a.ensures c.put_field-b.ensures c.put_field-c.ensures c.put_field.ensures
