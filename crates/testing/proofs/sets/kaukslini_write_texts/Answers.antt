use Rattle.testing.proofs.TellingSets.{tells_set, tells_no_set}
use Rattle.testing.proofs.sets.kaukslini_write_texts.Goals as goal

pub returns-in-Accepted : goal.returns-in-Accepted
returns-in-Accepted c = record { answer = _; writes = c.write-r.ensures.writes; told = tells_set _ c.in-Accepted.is }

pub returns-in-Refused : goal.returns-in-Refused
returns-in-Refused c = record { answer = _; writes = c.write-r.ensures.writes; told = tells_no_set _ c.in-Refused.is }
