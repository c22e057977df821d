use Rattle.testing.proofs.TellingMendings.{tells_mended}
use Rattle.testing.proofs.mends.kaukslini_mend_texts.Goals as goal

pub returns : goal.returns
returns c = tells_mended _ _ _ _ _ c.mend.ensures c.mended_case-c.ensures c.put_cells.ensures
