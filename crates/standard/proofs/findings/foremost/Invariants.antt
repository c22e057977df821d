use Rattle.standard.proofs.Telling.{Telling}
use Rattle.standard.proofs.findings.foremost.Given as goal

abbrev pub invariant-loop-i : goal.invariant-loop-i
invariant-loop-i l = Telling l.section l.rows l.words l.text l.d l.e l.x l.i l.best
