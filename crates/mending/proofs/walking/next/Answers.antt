use Rattle.mending.proofs.Piecing.{next_keep, next_drop}
use Rattle.mending.proofs.walking.next.Goals as goal

pub returns-then-mark_at-eq0 : goal.returns-then-mark_at-eq0
returns-then-mark_at-eq0 c = next_keep _ _ _ _ c.mark_at.ensures c.if-mark_at-eq0.true

pub returns : goal.returns
returns c = next_drop _ _ _ _ _ c.mark_at.ensures c.if-mark_at-eq0.false c.statement_end.ensures
