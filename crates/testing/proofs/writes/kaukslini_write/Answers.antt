use Rattle.testing.proofs.TellingWritten.{tells_written, tells_not_written}
use Rattle.testing.proofs.writes.kaukslini_write.Goals as goal

pub returns-in-Accepted : goal.returns-in-Accepted
returns-in-Accepted c = record { answer = _; writes = c.write-r.ensures.writes; told = tells_written c.put_cells.ensures c.in-Accepted.is c.put_cells-in-Accepted.ensures }

pub returns-in-Refused : goal.returns-in-Refused
returns-in-Refused c = record { answer = _; writes = c.write-r.ensures.writes; told = tells_not_written c.put_cells.ensures c.in-Refused.is c.put_cells-in-Refused.ensures }
