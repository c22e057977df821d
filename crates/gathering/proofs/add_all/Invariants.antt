use Prim.Native.Nat.{◌*◌}
use Rattle.gathering.proofs.Shapes.{SoFar}
use Rattle.gathering.proofs.add_all.Given as goal

abbrev pub invariant-loop-number : goal.invariant-loop-number
invariant-loop-number l = SoFar l.initial.buffer l.initial.lengths l.initial.origins l.buffer l.lengths l.origins l.used (l.number * 2)
