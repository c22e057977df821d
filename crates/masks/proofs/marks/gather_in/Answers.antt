use Rattle.masks.specs.Masks.{meets}
use Rattle.masks.specs.Bits.{has}
use mathlib.Core.Path.{sym, ◌∙◌}
use Rattle.masks.proofs.Looping.{gathers_none, gathers_more}
use Rattle.masks.proofs.marks.gather_in.Goals as goal

pub returns-then-not-has_event : goal.returns-then-not-has_event
returns-then-not-has_event c = gathers_none _ _ (λ k. meets _ _ (λ n. has n k) _ 0) (sym c.has_event.ensures ∙ c.if-not-has_event.true)

pub returns : goal.returns
returns c = gathers_more _ _ _ (λ k. meets _ _ (λ n. has n k) _ 0) (sym c.has_event.ensures ∙ c.if-not-has_event.false) c.gather.ensures
