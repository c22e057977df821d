use mathlib.Core.Path.{refl}
use Rattle.mending.proofs.Piecing.{here_dropped, here_kept}
use Rattle.mending.proofs.walking.is_here.Goals as goal

pub returns-then-mark_at-ne0 : goal.returns-then-mark_at-ne0
returns-then-mark_at-ne0 c = here_dropped _ _ _ _ c.mark_at.ensures c.if-mark_at-ne0.true

pub returns : goal.returns
returns c = here_kept _ _ _ _ c.mark_at.ensures c.if-mark_at-ne0.false _ refl
