use Rattle.gathering.proofs.Zeros.{zeros_length}
use Rattle.gathering.proofs.origin_cells.Goals as goal

pub returns : goal.returns
returns c = zeros_length 131070
