use Rattle.testing.proofs.TellingMasks.{tells_checked}
use Rattle.testing.proofs.events.kaukslini_check_masks.Goals as goal

pub returns : goal.returns
returns c = tells_checked _ _ _ _ _ _ c.check_masks.ensures.checks c.checked_case-c.ensures c.put_cells.ensures
