use Rattle.testing.proofs.TellingMasks.{tells_planned}
use Rattle.testing.proofs.events.kaukslini_plan_masks.Goals as goal

pub returns : goal.returns
returns c = tells_planned _ _ _ _ _ _ _ c.plan_masks.ensures.plans c.planned_case-c.ensures c.put_cells.ensures
