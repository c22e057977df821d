use Rattle.mending.proofs.Piecing.{puts_dropped, puts_kept}
use Rattle.mending.proofs.walking.put_kept.Goals as goal

pub returns-then-mark_at-ne0 : goal.returns-then-mark_at-ne0
returns-then-mark_at-ne0 c = puts_dropped _ _ _ _ _ _ c.mark_at.ensures c.if-mark_at-ne0.true

pub returns : goal.returns
returns c = puts_kept _ _ _ _ _ _ c.mark_at.ensures c.if-mark_at-ne0.false _ c.put_byte.ensures
