-- `definitions::name_fault` meets its contract: 8 comes before 9, which is sought where there is no 8. Assumes nothing.
use native.Mathlib.Omega.{arith}
use Rattle.indexes.proofs.Throughs.{through_one, through_two, through_first, through_second}
use Rattle.defining_checks.proofs.Turns.{name_again, name_new}
use Rattle.defining_checks.proofs.definitions.name_fault.Goals as goal

pub returns-in-Some : goal.returns-in-Some
returns-in-Some c = through_one (name_again _ _ _ _ _ c.cell_of-at.ensures c.fault_if-a.ensures _ _ _ c.in-Some.is c.sooner.ensures) (through_first c.again.ensures)

pub returns-in-None : goal.returns-in-None
returns-in-None c = through_two (omega arith) (name_new _ _ _ _ _ c.cell_of-at.ensures c.fault_if-a.ensures _ _ _ c.in-None.is c.sooner-in-None.ensures) (through_first c.again.ensures) (through_second c.type_fault-c.ensures)
