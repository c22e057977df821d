-- `comparing::values::kind_of` meets its contract.
-- Assumes nothing.
use Rattle.comparing.proofs.Countings.{kind_low}
use Rattle.comparing.proofs.values.kind_of.Goals as goal

pub returns : goal.returns
returns c = kind_low _ _ _ _ _ c.cell_of-j.ensures c.cell_of-code.ensures _ c.saturating_sub.ensures
