-- `lookups::names::find_definition` meets its contract.
-- Assumes nothing.
use Rattle.lookups.proofs.Naming.{definition_found}
use Rattle.lookups.proofs.names.find_definition.Goals as goal

pub returns : goal.returns
returns c = definition_found _ _ _ _ _ _ _ _ _ c.requires c.cells_from.ensures c.find_definition.ensures
