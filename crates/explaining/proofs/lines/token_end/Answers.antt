use mathlib.Core.Path.{sym, ◌∙◌}
use Rattle.explaining.proofs.Starts.{token_here, token_later, token_bad, token_none}
use Rattle.explaining.proofs.lines.token_end.Goals as goal

pub returns-then-t-at : goal.returns-then-t-at
returns-then-t-at c = token_here _ _ _ _ (sym c.step.ensures ∙ c.in-Found.is) c.if-t-at.true

pub returns-else-t-at : goal.returns-else-t-at
returns-else-t-at c = token_later _ _ _ _ (sym c.step.ensures ∙ c.in-Found.is) c.if-t-at.false

pub returns-in-Refused : goal.returns-in-Refused
returns-in-Refused c = token_bad _ _ _ (sym c.step.ensures ∙ c.in-Refused.is)

pub returns-in-End : goal.returns-in-End
returns-in-End c = token_none _ _ _ (sym c.step.ensures ∙ c.in-End.is)
