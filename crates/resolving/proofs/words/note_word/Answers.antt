-- `resolving::words::note_word` meets its contract.
-- Assumes nothing.
use Rattle.resolving.proofs.Namings.{notes_none, notes_found}
use Rattle.resolving.proofs.words.note_word.Goals as goal

pub returns-in_default : goal.returns-in_default
returns-in_default c = notes_none

pub returns-then-i-ge65536 : goal.returns-then-i-ge65536
returns-then-i-ge65536 c = notes_none

pub returns : goal.returns
returns c = notes_found _ _ _ _ c.cell_of-at.ensures c.cell_of-len.ensures c.find_enumerator.ensures c.in-Some.is
