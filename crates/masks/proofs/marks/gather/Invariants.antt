use Rattle.masks.specs.Marks.{task_at}
use Rattle.masks.specs.Masks.{meets}
use Rattle.masks.specs.Bits.{has}
use Rattle.token.specs.Find.{either}
use lib.ListN.{drop}
use Prim.Native.Nat.{ℕ}
use mathlib.Core.Path.{◌≡◌}
use Rattle.masks.proofs.marks.gather.Given as goal

abbrev pub invariant-loop-j : goal.invariant-loop-j
invariant-loop-j l = (k : ℕ) → either (has l.b k) (meets (task_at l.marks l.rows l.t) l.i (λ n. has n k) (drop l.j l.list) l.j) ≡ either (has l.a k) (meets (task_at l.marks l.rows l.t) l.i (λ n. has n k) l.list 0)
