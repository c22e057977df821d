use Rattle.testing.proofs.TellingQuestions.{tells_front, tells_no_front}
use Rattle.testing.proofs.heads.kaukslini_heading_texts.Goals as goal

pub returns-in-Ok : goal.returns-in-Ok
returns-in-Ok c = tells_front _ _ _ _ c.heading.ensures.heads c.in-Ok.is c.put_cells.ensures

pub returns-in-Err : goal.returns-in-Err
returns-in-Err c = tells_no_front _ _ _ _ c.heading.ensures.heads c.in-Err.is c.put_cells-in-Err.ensures
