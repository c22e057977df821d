use native.Mathlib.Omega.{arith}
use Rattle.amounts.proofs.Rises.{left_start, left_more, left_end, falls}
use Rattle.amounts.proofs.noting.rises.Goals as goal

pub loop-cell-init : goal.loop-cell-init
loop-cell-init c = left_start _

pub returns-then-cell-last : goal.returns-then-cell-last
returns-then-cell-last c = falls _

pub loop-cell-preserved : goal.loop-cell-preserved
loop-cell-preserved c = left_more _ _ _ (omega arith) (omega arith) c.loop-cell.invariant

pub returns : goal.returns
returns c = left_end _ _ _ (omega arith) c.loop-cell.invariant
