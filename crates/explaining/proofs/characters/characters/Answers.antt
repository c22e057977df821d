use Rattle.explaining.proofs.Letters.{are_utf_8, are_bytes}
use Rattle.explaining.proofs.characters.characters.Goals as goal

pub returns-then-state-eq0 : goal.returns-then-state-eq0
returns-then-state-eq0 c = are_utf_8 _ _ c.state.ensures c.if-state-eq0.true _ c.count.ensures

pub returns : goal.returns
returns c = are_bytes _ _ c.state.ensures c.if-state-eq0.false
