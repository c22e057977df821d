-- `testing::kaukslini_step_sort` meets its contract: each arm is a case of `sort_of`.
-- Assumes nothing.
use Rattle.testing.specs.Steps.{sort_of}
use mathlib.Core.Path.{sym, ◌∙◌, ap}
use Rattle.testing.proofs.kaukslini_step_sort.Goals as goal

pub returns-in-Found : goal.returns-in-Found
unfolding sort_of
returns-in-Found c = c.number_of_sort.ensures ∙ sym (ap sort_of (sym c.step.ensures ∙ c.in-Found.is))

pub returns-in-Refused : goal.returns-in-Refused
unfolding sort_of
returns-in-Refused c = sym (ap sort_of (sym c.step.ensures ∙ c.in-Refused.is))

pub returns-in-End : goal.returns-in-End
unfolding sort_of
returns-in-End c = sym (ap sort_of (sym c.step.ensures ∙ c.in-End.is))
