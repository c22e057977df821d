use Rattle.statement_causes.proofs.Seeking.{SeekingObjects}
use Rattle.statement_causes.proofs.seek_all.Given as goal

abbrev pub invariant-loop-i : goal.invariant-loop-i
invariant-loop-i l = SeekingObjects l.text l.d l.e l.o l.st l.z l.places l.place l.i
