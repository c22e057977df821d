use Rattle.sources.specs.Expanding.{is_too_long}
use mathlib.Core.Path.{refl}
use Rattle.sources.proofs.filling.too_long.Goals as goal

pub returns : goal.returns
unfolding is_too_long
returns c = refl
