use Rattle.statement_causes.proofs.Telling.{tells_long, tells_refused, tells_passed}
use Rattle.statement_causes.proofs.tell.Goals as goal

pub returns-then-text-gt-LONGEST : goal.returns-then-text-gt-LONGEST
returns-then-text-gt-LONGEST c = tells_long _ _ _ c.if-text-gt-LONGEST.true

pub returns-in-Some : goal.returns-in-Some
returns-in-Some c = tells_refused _ _ c.decide-r.ensures _ c.in-Some.is

pub returns-in-None : goal.returns-in-None
returns-in-None c = tells_passed _ _ c.decide-r.ensures c.in-None.is c.tell_kept.ensures
