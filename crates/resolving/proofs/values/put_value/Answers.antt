-- `resolving::values::put_value` meets its contract.
-- Assumes nothing.
use Rattle.resolving.proofs.Valuing.{put_row}
use Rattle.resolving.proofs.values.put_value.Goals as goal

pub returns : goal.returns
returns c = put_row _ _ _ _ _ _ _ _ _ _ _ c.sort-owner_sort.ensures c.row-owner.ensures c.sort-sort.ensures c.negative-negative.ensures c.amount-amount.ensures c.value_of-x.ensures c.put_cells.ensures
