-- `testing::kaukslini_step_detail` meets its contract: each arm is a case of `detail_of`.
-- Assumes nothing.
use Rattle.testing.specs.Steps.{detail_of}
use mathlib.Core.Path.{sym, ◌∙◌, ap}
use Rattle.testing.proofs.kaukslini_step_detail.Goals as goal

pub returns-in-Found : goal.returns-in-Found
unfolding detail_of
returns-in-Found c = c.detail_of_sort.ensures ∙ sym (ap detail_of (sym c.step.ensures ∙ c.in-Found.is))

pub returns-in-Refused : goal.returns-in-Refused
unfolding detail_of
returns-in-Refused c = sym (ap detail_of (sym c.step.ensures ∙ c.in-Refused.is))

pub returns-in-End : goal.returns-in-End
unfolding detail_of
returns-in-End c = sym (ap detail_of (sym c.step.ensures ∙ c.in-End.is))
