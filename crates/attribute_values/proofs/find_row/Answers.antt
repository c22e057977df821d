use Rattle.attribute_values.proofs.Copying.{row_nothing, row_found}
use Rattle.attribute_values.proofs.find_row.Goals as goal

pub returns-in_default : goal.returns-in_default
returns-in_default c = row_nothing _ _ _ _ _ _ _ _ _ _ c.find_object.ensures c.in_default.is

pub returns : goal.returns
returns c = row_found _ _ _ _ _ _ _ _ _ _ c.find_object.ensures _ c.in-Some.is _ c.find_value.ensures
