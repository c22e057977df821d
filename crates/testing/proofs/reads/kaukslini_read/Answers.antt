use Rattle.testing.proofs.Telling.{tells_accepted, tells_refused}
use Rattle.testing.proofs.reads.kaukslini_read.Goals as goal

pub returns-in-Accepted : goal.returns-in-Accepted
returns-in-Accepted c = record { answer = _; reads = c.read-r.ensures.reads; told = tells_accepted c.put_cells.ensures c.put_cells-2.ensures c.in-Accepted.is c.put_cells-in-Accepted.ensures }

pub returns-in-Refused : goal.returns-in-Refused
returns-in-Refused c = record { answer = _; reads = c.read-r.ensures.reads; told = tells_refused c.put_cells.ensures c.put_cells-2.ensures c.in-Refused.is c.put_cells-in-Refused.ensures }
