use Rattle.masks.proofs.Storing.{Putting}
use Rattle.masks.proofs.events.event_rows.Given as goal

abbrev pub invariant-loop-i : goal.invariant-loop-i
invariant-loop-i l = Putting l.initial.rows l.o l.m l.rows l.i l.e
