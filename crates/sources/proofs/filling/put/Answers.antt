use mathlib.Core.Path.{refl}
use Rattle.sources.specs.Expanding.{origin}
use Rattle.sources.proofs.filling.put.Goals as goal

pub returns : goal.returns
unfolding origin
returns c = record { next = refl; bytes = c.put_cells.ensures; origins = c.count_up.ensures }
