-- `testing::kaukslini_step_negative` meets its contract: each arm is a case of `sign_of`.
-- Assumes nothing.
use Rattle.testing.specs.Steps.{sign_of}
use mathlib.Core.Path.{sym, ◌∙◌, ap}
use Rattle.testing.proofs.kaukslini_step_negative.Goals as goal

pub returns-in-Found : goal.returns-in-Found
unfolding sign_of
returns-in-Found c = c.sign_of_sort.ensures ∙ sym (ap sign_of (sym c.step.ensures ∙ c.in-Found.is))

pub returns-in-Refused : goal.returns-in-Refused
unfolding sign_of
returns-in-Refused c = sym (ap sign_of (sym c.step.ensures ∙ c.in-Refused.is))

pub returns-in-End : goal.returns-in-End
unfolding sign_of
returns-in-End c = sym (ap sign_of (sym c.step.ensures ∙ c.in-End.is))
