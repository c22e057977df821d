use Rattle.masks.specs.Marks.{tasks_of, masks_at}
use Rattle.masks.specs.Masks.{breaking}
use lib.ListN.{length}
use mathlib.Core.Path.{◌≡◌}
use Rattle.masks.proofs.Rules.{left}
use Rattle.masks.proofs.turns.first_breaking.Given as goal

abbrev pub invariant-loop-i : goal.invariant-loop-i
invariant-loop-i l = left (tasks_of l.tasks) l.given l.list l.i ≡ breaking (tasks_of l.tasks) l.list 0 (masks_at l.given (length l.list) 0) l.list
