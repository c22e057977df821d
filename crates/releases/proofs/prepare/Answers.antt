use Rattle.releases.proofs.Telling.{made}
use mathlib.Core.Path.{refl}
use Rattle.releases.proofs.prepare.Goals as goal

pub returns : goal.returns
returns c = made _ _ _ _ _ _ _ _ _ _ _ _ refl c.index.auto.b c.index.ensures c.index.auto.x c.index-2.ensures c.index-2.auto.x c.fill_starts.ensures
