use Rattle.comparing.proofs.Columned.{step_found}
use Rattle.comparing.proofs.columns.step_at.Goals as goal

pub returns : goal.returns
returns c = step_found _ _ _ _ _ _ _ _ _ _ c.cell_of-j.ensures c.cell_of.ensures c.least_of-mark.ensures c.least_of-a.ensures c.least_of-b.ensures
