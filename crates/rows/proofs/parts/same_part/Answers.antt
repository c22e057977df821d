-- `rows::parts::same_part` meets its contract: a part is the same as itself.
-- Assumes nothing.
use Rattle.rows.proofs.Firsts.{same_part_self}
use Rattle.rows.proofs.parts.same_part.Goals as goal

pub returns-then-len-len2 : goal.returns-then-len-len2
returns-then-len-len2 c = same_part_self _ _ _ _ _ c.if-at-at2.true c.if-len-len2.true
