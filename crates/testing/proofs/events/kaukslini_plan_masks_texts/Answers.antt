use Rattle.testing.proofs.TellingQuestions.{tells_plans}
use Rattle.testing.proofs.events.kaukslini_plan_masks_texts.Goals as goal

pub returns : goal.returns
returns c = tells_plans _ _ _ _ _ c.plan_masks.ensures c.planned_case-c.ensures c.put_cells.ensures
