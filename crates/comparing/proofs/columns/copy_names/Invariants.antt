-- `comparing::columns::copy_names` meets its contract.
-- Assumes nothing.
use Rattle.comparing.specs.Columns.{Holds, name_from}
use Rattle.comparing.proofs.columns.copy_names.Given as goal

abbrev pub invariant-loop-i : goal.invariant-loop-i
invariant-loop-i l = Holds (name_from l.v l.h l.r) l.i l.out
