use Rattle.masks.proofs.Markings.{Marking}
use Rattle.masks.proofs.members.mark_all.Given as goal

abbrev pub invariant-loop-k : goal.invariant-loop-k
invariant-loop-k l = Marking l.initial.marks l.o l.v l.n l.marks l.k l.last
