use Rattle.mending.proofs.Sayings.{puts_field}
use Rattle.mending.proofs.telling.put_field.Goals as goal

pub returns : goal.returns
returns c = puts_field _ c.put_decimal-a.ensures c.put_bytes.ensures
