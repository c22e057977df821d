-- `testing::kaukslini_step_next` meets its contract: each arm is a case of `next_of`.
-- Assumes nothing.
use Rattle.testing.specs.Steps.{next_of}
use mathlib.Core.Path.{sym, ◌∙◌, ap}
use Rattle.testing.proofs.kaukslini_step_next.Goals as goal

pub returns-in-Found : goal.returns-in-Found
unfolding next_of
returns-in-Found c = sym (ap next_of (sym c.step.ensures ∙ c.in-Found.is))

pub returns-in-Refused : goal.returns-in-Refused
unfolding next_of
returns-in-Refused c = sym (ap next_of (sym c.step.ensures ∙ c.in-Refused.is))

pub returns-in-End : goal.returns-in-End
unfolding next_of
returns-in-End c = sym (ap next_of (sym c.step.ensures ∙ c.in-End.is))
