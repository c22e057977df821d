use Rattle.lookups.proofs.Naming.{definition_stated}
use Rattle.lookups.proofs.names.is_stated.Goals as goal

pub returns : goal.returns
returns c = definition_stated _ _ _ _ c.requires.0 _ _ _ _ _ c.statement_ranks.ensures _ _ c.definition_ranks-ranks.ensures c.requires.1 c.is_row_stated.ensures
