-- `lookups::find_definition` meets its contract.
-- Assumes nothing.
use Rattle.lookups.proofs.Rows.{definition_indexed}
use Rattle.lookups.proofs.find_definition.Goals as goal

pub returns : goal.returns
returns c = definition_indexed _ _ _ _ _ _ _ c.find_indexed.ensures
