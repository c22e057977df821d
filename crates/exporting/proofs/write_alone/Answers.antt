use borrow.Author.Rules.{rules}
use Rattle.exporting.proofs.Telling.{normal_refused, normal_written}
use Rattle.exporting.proofs.write_alone.Goals as goal

pub returns-in-Refused : goal.returns-in-Refused
returns-in-Refused c = normal_refused c.write-r.ensures.rules _ _ c.in-Refused.is _ c.refusal.ensures

pub returns-in-Accepted : goal.returns-in-Accepted
returns-in-Accepted c = normal_written c.write-r.ensures.rules c.in-Accepted.is
