-- `comparing::partners::find_partners` meets its contract: before row i the partners of the rows before are there.
-- Assumes nothing.
use Rattle.comparing.proofs.Partnering.{Filling}
use Rattle.comparing.proofs.partners.find_partners.Given as goal

abbrev pub invariant-loop-i : goal.invariant-loop-i
invariant-loop-i l = Filling l.x l.owners2 l.steps2 l.out l.i
