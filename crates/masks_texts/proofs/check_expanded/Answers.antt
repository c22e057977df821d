use Rattle.masks_texts.proofs.Told.{check_told, check_refused}
use borrow.Author.Rules.{rules}
use Rattle.masks_texts.proofs.check_expanded.Goals as goal

pub returns-in-Ok : goal.returns-in-Ok
returns-in-Ok c = check_told c.check_masks.ensures.rules c.in-Ok.is

pub returns-in-Err : goal.returns-in-Err
returns-in-Err c = check_refused c.check_masks.ensures.rules c.in-Err.is c.refused.ensures
