use native.Mathlib.Omega.{arith}
use Rattle.lookups.proofs.Blocks.{row_searched, row_none, row_ranked}
use Rattle.lookups.proofs.row_stated.Goals as goal

pub returns-then-ranks-i : goal.returns-then-ranks-i
returns-then-ranks-i c = row_searched _ _ _ _ _ _ _ _ _ _ _ _ c.searched.ensures

pub returns-then-end-k : goal.returns-then-end-k
returns-then-end-k c = row_none _ _ _ _ _ _ _ _ _ _ _ _ _ (omega arith) c.start.ensures c.skip-k.ensures (omega arith)

pub returns : goal.returns
returns c = row_ranked _ _ _ _ _ _ _ _ _ _ _ _ _ _ _ c.place_after-second.ensures c.row_start-start.ensures c.cell-at.ensures c.cell-len.ensures _ _ _ (omega arith) c.start.ensures c.skip-k.ensures c.stated.ensures
