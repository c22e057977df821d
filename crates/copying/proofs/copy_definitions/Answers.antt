use Rattle.copying.proofs.Wholes.{copies_definitions}
use Rattle.copying.proofs.copy_definitions.Goals as goal

pub returns : goal.returns
returns c = copies_definitions _ _ _ _ c.copy_rows.ensures
