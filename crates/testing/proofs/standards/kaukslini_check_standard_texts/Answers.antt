use Rattle.testing.proofs.TellingQuestions.{tells_compared}
use Rattle.testing.proofs.standards.kaukslini_check_standard_texts.Goals as goal

pub returns : goal.returns
returns c = tells_compared _ _ _ _ _ c.check_standard.ensures c.told_case-c.ensures c.put_cells.ensures
