-- `testing::kaukslini_part_place` meets its contract: the tests say which case of `part_place` holds.
-- Assumes nothing.
use Rattle.token.proofs.Lexemes.{place_inside, place_long, place_past}
use Rattle.testing.proofs.kaukslini_part_place.Goals as goal

pub returns-then-len-text : goal.returns-then-len-text
returns-then-len-text c = place_inside _ _ _ c.if-at-text.true c.if-len-text.true

pub returns-else-len-text : goal.returns-else-len-text
returns-else-len-text c = place_long _ _ _ c.if-len-text.false

pub returns-else-at-text : goal.returns-else-at-text
returns-else-at-text c = place_past _ _ _ c.if-at-text.false
