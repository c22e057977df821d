-- `judging::marking::lacks` meets its contract.
-- Assumes nothing.
use Rattle.judging.proofs.Lacking.{Passed}
use Prim.Native.Nat.{◌-◌}
use Rattle.judging.proofs.marking.lacks.Given as goal

abbrev pub invariant-loop-i : goal.invariant-loop-i
invariant-loop-i l = Passed l.text l.d l.st l.missing l.n l.key l.from l.end l.i

abbrev pub decreases-loop-i : goal.decreases-loop-i
decreases-loop-i l = l.n - l.i
