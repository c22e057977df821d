-- `comparing::positions::reckon_positions` meets its contract: before row i the positions of the rows before are there.
-- Assumes nothing.
use Rattle.comparing.proofs.Reckoning.{Reckon}
use Rattle.comparing.proofs.positions.reckon_positions.Given as goal

abbrev pub invariant-loop-i : goal.invariant-loop-i
invariant-loop-i l = Reckon l.owners l.names l.out l.i
