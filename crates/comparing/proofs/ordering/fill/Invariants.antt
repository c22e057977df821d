-- `comparing::ordering::fill` meets its contract: the first i cells are those of their rows.
-- Assumes nothing.
use Rattle.comparing.specs.Columns.{Holds}
use Rattle.comparing.specs.Ordering.{entry_of}
use Rattle.comparing.proofs.ordering.fill.Given as goal

abbrev pub invariant-loop-i : goal.invariant-loop-i
invariant-loop-i l = Holds (entry_of l.a l.b) l.i l.x
