use Prim.Native.Nat.{◌-◌, ◌≤◌}
use Rattle.statement_causes.proofs.Seeking.{Seeking}
use Rattle.statement_causes.proofs.+seek.Given as goal

abbrev pub decreases-seek : goal.decreases-seek
decreases-seek l = l.end - l.from

abbrev pub invariant-loop-k : goal.invariant-loop-k
invariant-loop-k l = (l.from ≤ l.k) × Seeking l.text l.d l.e l.st l.z l.key l.from l.end l.place l.k

abbrev pub decreases-loop-k : goal.decreases-loop-k
decreases-loop-k l = l.end - l.k
