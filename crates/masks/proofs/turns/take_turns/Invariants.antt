use Rattle.masks.specs.Marks.{tasks_of, masks_at}
use Rattle.masks.specs.Masks.{plan_from}
use lib.ListN.{length}
use Prim.Native.Nat.{◌-◌}
use mathlib.Core.Path.{◌≡◌}
use Rattle.masks.proofs.turns.take_turns.Given as goal

abbrev pub invariant-loop-i : goal.invariant-loop-i
invariant-loop-i l = (length l.masks ≡ length l.initial.masks) × (plan_from (tasks_of l.tasks) l.masks l.i (masks_at l.given (length l.initial.masks - l.i) l.i) ≡ plan_from (tasks_of l.tasks) l.initial.masks 0 (masks_at l.given (length l.initial.masks) 0))
