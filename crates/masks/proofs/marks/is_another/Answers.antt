use mathlib.Core.Path.{sym, ◌∙◌}
use Rattle.masks.proofs.Looping.{other_no, other_yes}
use Rattle.masks.proofs.marks.is_another.Goals as goal

pub returns-then-not-has_event : goal.returns-then-not-has_event
returns-then-not-has_event c = other_no _ _ _ (sym c.has_event.ensures ∙ c.if-not-has_event.true)

pub returns : goal.returns
returns c = other_yes _ _ _ (sym c.has_event.ensures ∙ c.if-not-has_event.false)
