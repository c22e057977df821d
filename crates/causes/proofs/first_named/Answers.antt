use Rattle.causes.proofs.Telling.{tells_named}
use Rattle.causes.proofs.first_named.Goals as goal

pub returns : goal.returns
returns c = tells_named _ _ _ c.walk-w.ensures _ _ _ c.least_of-n.ensures c.first_like.ensures
