-- `resolving::words::enumerator_of` meets its contract.
-- Assumes nothing.
use Rattle.resolving.proofs.Namings.{enumerator_looked, enumerator_noted}
use Rattle.resolving.proofs.words.enumerator_of.Goals as goal

pub returns-then-c-eq0 : goal.returns-then-c-eq0
returns-then-c-eq0 c = enumerator_looked c.find_enumerator.ensures

pub returns-then-cell_of-at : goal.returns-then-cell_of-at
returns-then-cell_of-at c = enumerator_looked c.find_enumerator-then-cell_of-at.ensures

pub returns-then-cell_of-len : goal.returns-then-cell_of-len
returns-then-cell_of-len c = enumerator_looked c.find_enumerator-then-cell_of-len.ensures

pub returns : goal.returns
returns c = enumerator_noted c.get-c.ensures c.if-c-eq0.false c.cell_of.ensures c.if-cell_of-at.false c.cell_of-2.ensures c.if-cell_of-len.false
