-- `definitions::again` meets its contract: it finds through the index. Assumes nothing.
use Rattle.indexes.proofs.Throughs.{through_one, through_found}
use Rattle.defining_checks.proofs.Naming.{again_found}
use Rattle.defining_checks.proofs.definitions.again.Goals as goal

pub returns : goal.returns
returns c = through_one (again_found _ _ _ _ _ _ _ c.cell_of-under.ensures c.cell_of-at.ensures c.cell_of-len.ensures) (through_found _ _ _ _ _ _ _ _ _ _ _ c.find_before.ensures)
