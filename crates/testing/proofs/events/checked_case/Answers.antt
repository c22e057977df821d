use Rattle.testing.specs.Masks.{checked_case}
use mathlib.Core.Path.{sym, ap}
use Rattle.testing.proofs.Variants.{ok_of}
use Rattle.testing.proofs.events.checked_case.Goals as goal

pub returns-in-Err : goal.returns-in-Err
unfolding checked_case
returns-in-Err c = sym (ap checked_case c.in-Err.is)

pub returns-in-NotPlannable : goal.returns-in-NotPlannable
unfolding checked_case
returns-in-NotPlannable c = sym (ap checked_case (ok_of c.in-Ok.is c.in-NotPlannable.is))

pub returns-in-WrongLength : goal.returns-in-WrongLength
unfolding checked_case
returns-in-WrongLength c = sym (ap checked_case (ok_of c.in-Ok.is c.in-WrongLength.is))

pub returns-in-Breaks : goal.returns-in-Breaks
unfolding checked_case
returns-in-Breaks c = sym (ap checked_case (ok_of c.in-Ok.is c.in-Breaks.is))

pub returns-in-Accepted : goal.returns-in-Accepted
unfolding checked_case
returns-in-Accepted c = sym (ap checked_case (ok_of c.in-Ok.is c.in-Accepted.is))
