-- `resolving::words::word_of` meets its contract: by the attribute's type.
-- Assumes nothing.
use Rattle.resolving.proofs.Namings.{word_looked, word_nothing, word_found}
use Rattle.resolving.proofs.words.word_of.Goals as goal

pub returns-then-cell_of-ne-ENUM : goal.returns-then-cell_of-ne-ENUM
returns-then-cell_of-ne-ENUM c = word_looked c.word_under.ensures

pub returns-in_default : goal.returns-in_default
returns-in_default c = word_nothing c.cell_of.ensures c.if-cell_of-ne-ENUM.false c.enumerator_of.ensures c.in_default.is

pub returns : goal.returns
returns c = word_found c.cell_of.ensures c.if-cell_of-ne-ENUM.false c.enumerator_of.ensures c.in-Some.is c.cell_of-2.ensures
