-- `testing::kaukslini_part_length` meets its contract: the part is what `part` hands back.
-- Assumes nothing.
use Rattle.testing.specs.Steps.{part_length}
use lib.ListN.{length}
use mathlib.Core.Path.{ap}
use Rattle.testing.proofs.kaukslini_part_length.Goals as goal

pub returns : goal.returns
unfolding part_length
returns c = ap length c.part.ensures.bytes
