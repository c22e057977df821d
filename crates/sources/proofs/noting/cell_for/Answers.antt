use Rattle.sources.specs.Notes.{cell_for}
use mathlib.Core.Path.{refl}
use Rattle.sources.proofs.noting.cell_for.Goals as goal

pub returns : goal.returns
unfolding cell_for
returns c = refl
