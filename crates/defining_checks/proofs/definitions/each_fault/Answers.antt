-- `definitions::each_fault` meets its contract: row by row, through the index. Assumes nothing.
use native.Mathlib.Omega.{arith}
use Rattle.defining_checks.proofs.Turns.{rows_start, rows_more, rows_end}
use Rattle.indexes.proofs.Throughs.{through, through_one, through_two}
use Rattle.defining_checks.proofs.definitions.each_fault.Goals as goal

pub loop-j-init : goal.loop-j-init
loop-j-init c = through (rows_start _ _ _ _ _ _)

pub loop-j-preserved : goal.loop-j-preserved
loop-j-preserved c = through_two (omega arith) (λ h k. rows_more _ _ _ _ _ _ c.loop-j.j c.loop-j.best _ _ h k c.sooner-best.ensures) c.loop-j.invariant c.row_fault-f.ensures

pub returns : goal.returns
returns c = through_one (rows_end _ _ _ _ _ _ c.loop-j.j _ _ (omega arith) (omega arith)) c.loop-j.invariant
