-- `blocks::after` meets its contract.
-- Assumes nothing.
use native.Mathlib.Omega.{arith}
use Rattle.blocks.proofs.Ranges.{after_back, after_past, after_next}
use Rattle.blocks.proofs.after.Goals as goal

pub returns-then-next-k : goal.returns-then-next-k
returns-then-next-k c = after_back _ _ _ c.cell_of-next.result c.cell_of-next.ensures (omega arith)

pub returns-then-end-next : goal.returns-then-end-next
returns-then-end-next c = after_past _ _ _ c.cell_of-next.result c.cell_of-next.ensures (omega arith)

pub returns : goal.returns
returns c = after_next _ _ _ c.cell_of-next.result c.cell_of-next.ensures (omega arith) (omega arith)
