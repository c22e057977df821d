-- `testing::kaukslini_step_place` meets its contract: each arm is a case of `place_of`.
-- Assumes nothing.
use Rattle.testing.specs.Steps.{place_of}
use mathlib.Core.Path.{sym, ◌∙◌, ap}
use Rattle.testing.proofs.kaukslini_step_place.Goals as goal

pub returns-in-Found : goal.returns-in-Found
unfolding place_of
returns-in-Found c = sym (ap place_of (sym c.step.ensures ∙ c.in-Found.is))

pub returns-in-Refused : goal.returns-in-Refused
unfolding place_of
returns-in-Refused c = sym (ap place_of (sym c.step.ensures ∙ c.in-Refused.is))

pub returns-in-End : goal.returns-in-End
unfolding place_of
returns-in-End c = sym (ap place_of (sym c.step.ensures ∙ c.in-End.is))
