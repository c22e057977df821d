use Rattle.mending.proofs.Marking.{drops_kept}
use mathlib.Core.Path.{refl}
use Rattle.mending.proofs.drop_kept.Goals as goal

pub returns : goal.returns
returns c = drops_kept _ _ _ refl refl refl c.drop_all.ensures
