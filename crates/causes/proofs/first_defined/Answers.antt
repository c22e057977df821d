use Rattle.causes.proofs.Telling.{tells_defined}
use Rattle.causes.proofs.first_defined.Goals as goal

pub returns : goal.returns
returns c = tells_defined _ _ _ c.walk-w.ensures _ _ _ c.least_of-n.ensures c.first_like.ensures
