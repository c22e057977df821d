use Rattle.attribute_values.proofs.Copying.{copy_nothing, copy_found}
use Rattle.attribute_values.proofs.copy_found.Goals as goal

pub returns-in-Some : goal.returns-in-Some
returns-in-Some c = copy_found _ _ _ _ _ c.in-Some.is c.copy_row.ensures

pub returns-in-None : goal.returns-in-None
returns-in-None c = copy_nothing _ _ _ _ c.in-None.is
