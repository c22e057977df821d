use Rattle.sources.specs.Notes.{packed}
use mathlib.Core.Path.{refl}
use Rattle.sources.proofs.noting.packed.Goals as goal

pub returns : goal.returns
unfolding packed
returns c = refl
