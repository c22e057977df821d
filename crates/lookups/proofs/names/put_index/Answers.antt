-- `lookups::names::put_index` meets its contract.
-- Assumes nothing.
use Rattle.lookups.proofs.Naming.{puts_index, lent_count}
use native.Mathlib.Omega.{arith}
use Rattle.lookups.proofs.names.put_index.Goals as goal

pub returns : goal.returns
returns c = puts_index _ _ _ _ c.requires (omega arith) _ _ _ _ _ _ (lent_count _ _ _ c.requires) c.index.ensures
