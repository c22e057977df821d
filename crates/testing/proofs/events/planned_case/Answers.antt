use Rattle.testing.specs.Masks.{planned_case}
use mathlib.Core.Path.{sym, ap}
use Rattle.testing.proofs.Variants.{ok_of}
use Rattle.testing.proofs.events.planned_case.Goals as goal

pub returns-in-Err : goal.returns-in-Err
unfolding planned_case
returns-in-Err c = sym (ap planned_case c.in-Err.is)

pub returns-in-NotPlannable : goal.returns-in-NotPlannable
unfolding planned_case
returns-in-NotPlannable c = sym (ap planned_case (ok_of c.in-Ok.is c.in-NotPlannable.is))

pub returns-in-WrongLength : goal.returns-in-WrongLength
unfolding planned_case
returns-in-WrongLength c = sym (ap planned_case (ok_of c.in-Ok.is c.in-WrongLength.is))

pub returns-in-Full : goal.returns-in-Full
unfolding planned_case
returns-in-Full c = sym (ap planned_case (ok_of c.in-Ok.is c.in-Full.is))

pub returns-in-Made : goal.returns-in-Made
unfolding planned_case
returns-in-Made c = sym (ap planned_case (ok_of c.in-Ok.is c.in-Made.is))
