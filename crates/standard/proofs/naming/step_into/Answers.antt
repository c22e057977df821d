use Rattle.standard.proofs.Stepping.{steps_none, steps_some}
use Rattle.standard.proofs.naming.step_into.Goals as goal

pub returns-in_default : goal.returns-in_default
returns-in_default c = steps_none _ _ _ _ _ _ _ _ _ c.find_attribute.ensures c.in_default.is

pub returns : goal.returns
returns c = steps_some _ _ _ _ _ _ _ _ _ _ _ c.find_attribute.ensures c.in-Some.is c.find_value.ensures
