use mathlib.Core.Path.{sym, ap}
use Rattle.mending.specs.Ends.{punctuator_of}
use Rattle.mending.proofs.Endings.{no_punctuator}
use Rattle.mending.proofs.statements.punctuator_of.Goals as goal

pub returns-in-Punctuator : goal.returns-in-Punctuator
unfolding punctuator_of
returns-in-Punctuator c = sym (ap punctuator_of c.in-Punctuator.is)

pub returns-in_default : goal.returns-in_default
returns-in_default c = no_punctuator _ c.in_default.not-Punctuator
