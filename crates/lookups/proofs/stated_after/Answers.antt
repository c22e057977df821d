use native.Mathlib.Omega.{arith}
use Rattle.lookups.proofs.Linking.{after_searched, after_none, after_ranked}
use Rattle.lookups.proofs.stated_after.Goals as goal

pub returns-then-ranks-i : goal.returns-then-ranks-i
returns-then-ranks-i c = after_searched _ _ _ _ _ _ _ _ _ _ _ _ _ c.searched.ensures

pub returns-then-end-k : goal.returns-then-end-k
returns-then-end-k c = after_none _ _ _ _ _ _ _ _ _ _ _ _ _ _ (omega arith) (c.begin.ensures _) c.skip-k.ensures (omega arith)

pub returns : goal.returns
returns c = after_ranked _ _ _ _ _ _ _ _ _ _ _ _ _ _ _ _ c.place_after-second.ensures c.row_start-start.ensures c.cell-at.ensures c.cell-len.ensures _ _ _ (omega arith) (c.begin.ensures _) c.skip-k.ensures c.stated.ensures
