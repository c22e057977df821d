use Rattle.copying.proofs.Wholes.{copies_enumerators}
use Rattle.copying.proofs.copy_enumerators.Goals as goal

pub returns : goal.returns
returns c = copies_enumerators _ _ _ _ _ _ c.copy_attributed.ensures
