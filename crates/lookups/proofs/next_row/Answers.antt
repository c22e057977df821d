-- `lookups::next_row` meets its contract.
-- Assumes nothing.
use native.Mathlib.Omega.{arith}
use Rattle.lookups.proofs.Blocks.{next_back, next_past, next_inside}
use Rattle.lookups.proofs.next_row.Goals as goal

pub returns-then-v-k : goal.returns-then-v-k
returns-then-v-k c = next_back _ _ _ (omega arith)

pub returns-then-end-v : goal.returns-then-end-v
returns-then-end-v c = next_past _ _ _ (omega arith)

pub returns : goal.returns
returns c = next_inside _ _ _ (omega arith) (omega arith)
