use Rattle.masks_texts.proofs.Told.{plan_told, plan_refused}
use borrow.Author.Rules.{rules}
use Rattle.masks_texts.proofs.plan_expanded.Goals as goal

pub returns-in-Ok : goal.returns-in-Ok
returns-in-Ok c = plan_told c.plan_masks.ensures.rules c.in-Ok.is

pub returns-in-Err : goal.returns-in-Err
returns-in-Err c = plan_refused c.plan_masks.ensures.rules c.in-Err.is c.refused.ensures
