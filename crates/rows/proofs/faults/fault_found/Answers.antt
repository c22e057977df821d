-- `rows::faults::fault_found` meets its contract. Assumes nothing.
use Rattle.rows.proofs.Orders.{found_some, found_none}
use Rattle.rows.proofs.faults.fault_found.Goals as goal

pub returns-in-Some : goal.returns-in-Some
returns-in-Some c = found_some _ _ _ _ c.in-Some.is

pub returns-in-None : goal.returns-in-None
returns-in-None c = found_none _ _ _ c.in-None.is
