-- `lookups::names::word_under` meets its contract.
-- Assumes nothing.
use Rattle.lookups.proofs.Naming.{word_found}
use Rattle.lookups.proofs.names.word_under.Goals as goal

pub returns : goal.returns
returns c = word_found _ _ _ _ _ _ _ _ _ _ c.requires c.cells_from.ensures c.word_under.ensures
