use Rattle.writing.proofs.Pairings.{GoingObjects}
use Prim.Native.Nat.{◌-◌}
use Rattle.writing.proofs.objects.put_objects.Given as goal

abbrev pub invariant-loop-i : goal.invariant-loop-i
invariant-loop-i l = GoingObjects l.text l.d l.o l.v l.m l.n l.initial.out l.at l.i l.k l.out l.e
