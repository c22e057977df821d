use mathlib.Core.Path.{sym, ap}
use Rattle.standard.specs.Checking.{verdict_of}
use Rattle.standard.proofs.verdict.Goals as goal

pub returns-in-Some : goal.returns-in-Some
unfolding verdict_of
returns-in-Some c = sym (ap verdict_of c.in-Some.is)

pub returns-in-None : goal.returns-in-None
unfolding verdict_of
returns-in-None c = sym (ap verdict_of c.in-None.is)
