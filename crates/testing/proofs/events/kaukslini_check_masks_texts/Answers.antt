use Rattle.testing.proofs.TellingQuestions.{tells_checks}
use Rattle.testing.proofs.events.kaukslini_check_masks_texts.Goals as goal

pub returns : goal.returns
returns c = tells_checks _ _ _ _ _ c.check_masks.ensures c.checked_case-c.ensures c.put_cells.ensures
