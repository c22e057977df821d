use Rattle.merging.proofs.Turns.{Merging}
use Prim.Native.Nat.{◌≤◌}
use Rattle.merging.proofs.objects.merge.Given as goal

abbrev pub invariant-loop-i : goal.invariant-loop-i
invariant-loop-i l = (l.k ≤ l.i) × Merging l.p l.st l.x l.n l.i l.initial.o l.initial.t l.o l.t l.k l.m
