-- `resolving::scanning::next_under` meets its contract: the rows before i stand elsewhere.
-- Assumes nothing.
use Rattle.resolving.specs.Noted.{Elsewhere}
use Rattle.resolving.proofs.scanning.next_under.Given as goal

abbrev pub invariant-loop-i : goal.invariant-loop-i
invariant-loop-i l = Elsewhere l.d l.key l.j l.i
