use Rattle.masks.specs.Marks.{tasks_at}
use Rattle.masks.specs.Masks.{beside}
use Rattle.masks.specs.Bits.{has}
use Rattle.token.specs.Find.{either}
use Prim.Native.Nat.{ℕ, ◌-◌}
use mathlib.Core.Path.{◌≡◌}
use Rattle.masks.proofs.marks.Tasks.taken_bits.Given as goal

abbrev pub invariant-loop-t : goal.invariant-loop-t
invariant-loop-t l = (k : ℕ) → either (has l.b k) (beside (tasks_at l.marks l.rows (l.count - l.t) l.t) l.i (λ n. has n k) l.list) ≡ beside (tasks_at l.marks l.rows l.count 0) l.i (λ n. has n k) l.list
