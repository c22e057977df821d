-- `amounts::defaults::read_number` meets its contract.
-- Assumes nothing.
use Rattle.amounts.proofs.Remembering.{in_cells}
use Rattle.amounts.proofs.defaults.read_number.Goals as goal

pub returns : goal.returns
returns c = in_cells c.number_at-n.result _ _ c.number_at-n.ensures c.sign_of-negative.ensures
