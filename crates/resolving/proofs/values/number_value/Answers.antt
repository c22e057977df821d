-- `resolving::values::number_value` meets its contract.
-- Assumes nothing.
use Rattle.resolving.proofs.Valuing.{holds_number}
use Rattle.resolving.proofs.values.number_value.Goals as goal

pub returns : goal.returns
returns c = holds_number _ _ _ c.number_at-n.ensures
