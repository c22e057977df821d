use Rattle.testing.specs.Standards.{told_case}
use mathlib.Core.Path.{sym, ap}
use Rattle.testing.proofs.Variants.{ok_of}
use Rattle.testing.proofs.standards.told_case.Goals as goal

pub returns-in-Err : goal.returns-in-Err
unfolding told_case
returns-in-Err c = sym (ap told_case c.in-Err.is)

pub returns-in-None : goal.returns-in-None
unfolding told_case
returns-in-None c = sym (ap told_case (ok_of c.in-Ok.is c.in-None.is))

pub returns-in-Some : goal.returns-in-Some
unfolding told_case
returns-in-Some c = sym (ap told_case (ok_of c.in-Ok.is c.in-Some.is))
