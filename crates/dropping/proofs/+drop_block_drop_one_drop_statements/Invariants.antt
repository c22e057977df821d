-- `dropping::drop_block`, `dropping::drop_one` and `dropping::drop_statements` meet their contracts: the rows of a block in braces are fewer.
-- Assumes nothing.
use Rattle.dropping.proofs.Droppings.{Dropping}
use lib.ListN.{length}
use Prim.Native.Nat.{◌+◌, ◌*◌, ◌-◌, ◌≤◌}
use mathlib.Core.Path.{◌≡◌}
use Rattle.dropping.proofs.+drop_block_drop_one_drop_statements.Given as goal

abbrev pub decreases-drop_block : goal.decreases-drop_block
decreases-drop_block l = 3 * (l.end - l.from) + 2

abbrev pub decreases-drop_one : goal.decreases-drop_one
decreases-drop_one l = 3 * (l.next - l.k)

abbrev pub decreases-drop_statements : goal.decreases-drop_statements
decreases-drop_statements l = 3 * (l.end - l.from) + 1

abbrev pub invariant-drop_statements-loop-k : goal.invariant-drop_statements-loop-k
invariant-drop_statements-loop-k l = (l.from ≤ l.k) × (length l.marks ≡ length l.initial.marks) × Dropping l.text l.d l.e l.o l.st l.z l.key l.from l.end l.k l.initial.marks l.marks

abbrev pub decreases-drop_statements-loop-k : goal.decreases-drop_statements-loop-k
decreases-drop_statements-loop-k l = l.end - l.k
