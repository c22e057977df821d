-- `comparing::ordering::first_place` meets its contract: before `low` the cells are less, and from `high` on they are not.
-- Assumes nothing.
use Rattle.comparing.proofs.Sought.{narrow_low, narrow_high}
use native.Mathlib.Omega.{arith}
use Rattle.comparing.proofs.ordering.first_place.Goals as goal

pub loop-low-preserved-then-x-middle : goal.loop-low-preserved-then-x-middle
loop-low-preserved-then-x-middle c = (omega arith, omega arith, narrow_low _ _ _ _ _ c.loop-low.invariant.2 (omega arith) c.if-x-middle.true)

pub loop-low-preserved : goal.loop-low-preserved
loop-low-preserved c = (omega arith, omega arith, narrow_high _ _ _ _ _ c.loop-low.invariant.2 c.if-x-middle.false)
