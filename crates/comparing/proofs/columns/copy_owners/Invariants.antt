use Rattle.comparing.specs.Columns.{Holds, owner_from}
use Rattle.comparing.proofs.columns.copy_owners.Given as goal

abbrev pub invariant-loop-i : goal.invariant-loop-i
invariant-loop-i l = Holds (owner_from l.v l.r) l.i l.out
