use Rattle.mending.proofs.Wholes.{back_start, back_other}
use Rattle.mending.proofs.refusal_back.Goals as goal

pub returns-then-is_at_start : goal.returns-then-is_at_start
returns-then-is_at_start c = back_start _ _ _ _ c.is_at_start.ensures c.if-is_at_start.true

pub returns : goal.returns
returns c = back_other _ _ _ _ c.is_at_start.ensures c.if-is_at_start.false c.place_back.ensures
