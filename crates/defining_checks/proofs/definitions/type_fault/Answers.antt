-- `definitions::type_fault` meets its contract: the first row of the list with the name is under another value. Assumes nothing.
use Rattle.indexes.proofs.Throughs.{through, through_one, through_found}
use Rattle.defining_checks.proofs.Naming.{type_zero, type_none, type_some}
use Rattle.defining_checks.proofs.definitions.type_fault.Goals as goal

pub returns-then-outer-eq0 : goal.returns-then-outer-eq0
returns-then-outer-eq0 c = through (λ new. type_zero _ _ _ _ c.cell_of-outer.ensures c.if-outer-eq0.true)

pub returns-in_default : goal.returns-in_default
returns-in_default c = through_one (λ k new. type_none _ _ _ _ c.cell_of-outer.ensures c.if-outer-eq0.false _ _ c.cell_of-at.ensures c.cell_of-len.ensures _ k new c.in_default.is) (through_found _ _ _ _ _ _ _ _ _ _ _ c.find_before.ensures)

pub returns : goal.returns
returns c = through_one (λ k new. type_some _ _ _ _ c.cell_of-outer.ensures c.if-outer-eq0.false _ _ c.cell_of-at.ensures c.cell_of-len.ensures _ k new _ c.in-Some.is _ _ _ _ _ _ c.cell_of-word.ensures c.cell_of-size.ensures c.cell_of-first.ensures c.cell_of-size2.ensures c.same_part-same.ensures c.fault_if.ensures) (through_found _ _ _ _ _ _ _ _ _ _ _ c.find_before.ensures)
