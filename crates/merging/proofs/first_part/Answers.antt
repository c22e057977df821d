use Rattle.merging.proofs.Turns.{first_found, first_nothing}
use Rattle.indexes.proofs.Throughs.{through_one, through_found}
use Rattle.merging.proofs.first_part.Goals as goal

pub returns-in-Some : goal.returns-in-Some
returns-in-Some c = through_one (first_found _ _ _ _ c.cell_of-key.ensures c.cell_of-at.ensures c.cell_of-len.ensures c.in-Some.is) (through_found _ _ _ _ _ _ _ _ _ _ _ c.find_before.ensures)

pub returns-in-None : goal.returns-in-None
returns-in-None c = through_one (first_nothing _ _ _ _ c.cell_of-key.ensures c.cell_of-at.ensures c.cell_of-len.ensures c.in-None.is) (through_found _ _ _ _ _ _ _ _ _ _ _ c.find_before.ensures)
