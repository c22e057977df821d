use Rattle.testing.proofs.TellingStandards.{tells_standard}
use Rattle.testing.proofs.standards.kaukslini_check_standard.Goals as goal

pub returns : goal.returns
returns c = tells_standard _ _ _ _ _ c.check_standard.ensures.checks c.told_case-c.ensures c.put_cells.ensures
