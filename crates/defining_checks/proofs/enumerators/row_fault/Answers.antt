-- `enumerators::row_fault` meets its contract: it finds through the index. Assumes nothing.
use Rattle.indexes.proofs.Throughs.{through_one, through_found}
use Rattle.defining_checks.proofs.Turns.{enumerator_is}
use Rattle.defining_checks.proofs.enumerators.row_fault.Goals as goal

pub returns : goal.returns
returns c = through_one (λ k. enumerator_is _ _ _ _ _ _ _ _ _ _ c.cell_of-list.ensures c.cell_of-at.ensures c.cell_of-len.ensures c.fault_if-a.ensures k c.fault_found-b.ensures c.sooner.ensures) (through_found _ _ _ _ _ _ _ _ _ _ _ c.find_before-found.ensures)
