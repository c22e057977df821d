-- `lookups::names::is_owner` meets its contract.
-- Assumes nothing.
use Rattle.sorting.specs.Sorted.{Tells}
use mathlib.Core.Path.{subst}
use Rattle.lookups.proofs.names.is_owner.Goals as goal

pub returns : goal.returns
returns c = subst (λ l. Tells l c.args.key c.has.result) c.cells_from.ensures c.has.ensures
