use Rattle.comparing.proofs.Seconds.{Seconding}
use Rattle.comparing.proofs.pairs.second_values.Given as goal

abbrev pub invariant-loop-k : goal.invariant-loop-k
invariant-loop-k l = Seconding l.x l.y l.ps l.r l.initial.all l.all l.k
