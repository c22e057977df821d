-- `comparing::ordering::first_place` meets its contract: before `low` the cells are less, and from `high` on they are not.
-- Assumes nothing.
use Prim.Native.Nat.{◌≤◌, ◌-◌}
use lib.ListN.{length}
use Rattle.comparing.proofs.Sought.{Narrow}
use Rattle.comparing.proofs.ordering.first_place.Given as goal

abbrev pub invariant-loop-low : goal.invariant-loop-low
invariant-loop-low l = (l.low ≤ l.high) × (l.high ≤ length l.x) × Narrow l.x l.v l.low l.high

abbrev pub decreases-loop-low : goal.decreases-loop-low
decreases-loop-low l = l.high - l.low
