-- `lookups::is_row_stated` meets its contract.
-- Assumes nothing.
use Rattle.lookups.proofs.Blocks.{row_is}
use Rattle.lookups.proofs.is_row_stated.Goals as goal

pub returns-in-Some : goal.returns-in-Some
returns-in-Some c = row_is _ _ _ _ _ _ _ _ _ _ _ _ _ c.row_stated.ensures c.in-Some.is

pub returns-in-None : goal.returns-in-None
returns-in-None c = row_is _ _ _ _ _ _ _ _ _ _ _ _ _ c.row_stated.ensures c.in-None.is
