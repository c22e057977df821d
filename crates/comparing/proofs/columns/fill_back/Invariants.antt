use Rattle.comparing.specs.Columns.{Backs}
use Rattle.comparing.proofs.columns.fill_back.Given as goal

abbrev pub invariant-loop-k : goal.invariant-loop-k
invariant-loop-k l = Backs l.ps l.r l.k l.back
