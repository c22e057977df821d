-- `lookups::find_object` meets its contract.
-- Assumes nothing.
use Rattle.lookups.proofs.Rows.{object_indexed}
use Rattle.lookups.proofs.find_object.Goals as goal

pub returns : goal.returns
returns c = object_indexed _ _ _ _ _ _ _ c.find_indexed.ensures
