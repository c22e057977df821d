use Prim.Native.Nat.{◌+◌, ◌*◌, ◌-◌}
use Rattle.statement_causes.proofs.Missings.{Over}
use Rattle.statement_causes.proofs.+missing_missing_of.Given as goal

abbrev pub decreases-missing : goal.decreases-missing
decreases-missing l = 2 * l.n + 1

abbrev pub invariant-missing-loop-i : goal.invariant-missing-loop-i
invariant-missing-loop-i l = Over l.text l.d l.e l.st l.z l.key l.from l.end l.i

abbrev pub decreases-missing-loop-i : goal.decreases-missing-loop-i
decreases-missing-loop-i l = l.n - l.i

abbrev pub decreases-missing_of : goal.decreases-missing_of
decreases-missing_of l = 2 * l.j + 2
