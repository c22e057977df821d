use mathlib.Core.Path.{sym, ◌∙◌}
use Rattle.sources.proofs.Singles.{whole_is}
use Rattle.sources.proofs.lines.whole_to.Goals as goal

pub returns-in-Found : goal.returns-in-Found
returns-in-Found c = whole_is _ _ _ (sym c.step.ensures ∙ c.in-Found.is)

pub returns-in-Refused : goal.returns-in-Refused
returns-in-Refused c = whole_is _ _ _ (sym c.step.ensures ∙ c.in-Refused.is)

pub returns-in-End : goal.returns-in-End
returns-in-End c = whole_is _ _ _ (sym c.step.ensures ∙ c.in-End.is)
