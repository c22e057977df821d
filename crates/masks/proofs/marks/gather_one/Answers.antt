use Rattle.masks.specs.Bits.{has}
use mathlib.Core.Path.{sym, ◌∙◌}
use Rattle.masks.proofs.Looping.{gathers_none, gathers_more, has_or}
use Rattle.masks.proofs.marks.gather_one.Goals as goal

pub returns-then-not-is_another : goal.returns-then-not-is_another
returns-then-not-is_another c = gathers_none _ _ (λ k. has _ k) (sym c.is_another.ensures ∙ c.if-not-is_another.true)

pub returns : goal.returns
returns c = gathers_more _ _ _ (λ k. has _ k) (sym c.is_another.ensures ∙ c.if-not-is_another.false) (λ k. has_or _ _ k)
