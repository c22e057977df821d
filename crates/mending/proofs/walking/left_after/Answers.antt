use mathlib.Core.Path.{◌∙◌}
use Rattle.mending.proofs.Piecing.{left_dropped, left_kept}
use Rattle.mending.proofs.walking.left_after.Goals as goal

pub returns-then-mark_at-ne0 : goal.returns-then-mark_at-ne0
returns-then-mark_at-ne0 c = left_dropped _ _ _ _ c.mark_at.ensures c.if-mark_at-ne0.true

pub returns : goal.returns
returns c = c.saturating_sub.ensures ∙ left_kept _ _ _ _ c.mark_at.ensures c.if-mark_at-ne0.false
