-- `definitions::row_fault` meets its contract: the faults of its three parts. Assumes nothing.
use Rattle.defining_checks.proofs.Turns.{row_all}
use Rattle.indexes.proofs.Throughs.{through_one}
use Rattle.defining_checks.proofs.definitions.row_fault.Goals as goal

pub returns : goal.returns
returns c = through_one (λ h. row_all _ _ _ _ _ _ _ _ _ _ _ _ c.range_fault-a.ensures h c.default_fault-c.ensures c.sooner.ensures c.sooner-2.ensures) c.name_fault-b.ensures
