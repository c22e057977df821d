use Rattle.lent_texts.proofs.Told.{passed_on}
use Rattle.masks_texts.proofs.Told.{stopped_plans, text_plans}
use Rattle.masks_texts.proofs.plan_masks.Goals as goal

pub returns-in_err-e : goal.returns-in_err-e
returns-in_err-e c = stopped_plans c.expand.ensures c.in_err-e.was (passed_on c.from_residual.ensures.1)

pub returns : goal.returns
returns c = text_plans c.expand.ensures c.in_ok-e.was c.plan_expanded.ensures
