use Rattle.copying.proofs.Wholes.{copies_objects}
use Rattle.copying.proofs.copy_objects.Goals as goal

pub returns : goal.returns
returns c = copies_objects _ _ _ _ c.copy_rows.ensures
