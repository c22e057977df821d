-- `explaining::lines::inside` meets its contract: it is the smaller of the two.
-- Assumes nothing.
use Rattle.explaining.specs.Places.{within}
use Rattle.explaining.proofs.lines.inside.Goals as goal

pub returns : goal.returns
unfolding within
returns c = c.min.ensures
