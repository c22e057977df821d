-- `lookups::names::find_object` meets its contract.
-- Assumes nothing.
use Rattle.lookups.proofs.Naming.{object_found}
use Rattle.lookups.proofs.names.find_object.Goals as goal

pub returns : goal.returns
returns c = object_found _ _ _ _ _ _ _ _ _ c.requires c.cells_from.ensures c.find_object.ensures
