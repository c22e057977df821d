-- `lookups::find_enumerator` meets its contract.
-- Assumes nothing.
use Rattle.lookups.proofs.Rows.{enumerator_indexed}
use Rattle.lookups.proofs.find_enumerator.Goals as goal

pub returns : goal.returns
returns c = enumerator_indexed _ _ _ _ _ _ _ _ _ c.cell_of-key.ensures c.find_indexed.ensures
