-- `rows::faults::fault_if` meets its contract.
-- Assumes nothing.
use Rattle.rows.proofs.Orders.{fault_if_true, fault_if_false}
use mathlib.Core.Path.{sym}
use Rattle.rows.proofs.faults.fault_if.Goals as goal

pub returns-then-test : goal.returns-then-test
returns-then-test c = sym (fault_if_true _ _ _ c.if-test.true)

pub returns-else-test : goal.returns-else-test
returns-else-test c = sym (fault_if_false _ _ _ c.if-test.false)
