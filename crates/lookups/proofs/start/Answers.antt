use Rattle.lookups.proofs.Blocks.{start_noted, start_first}
use Rattle.lookups.proofs.start.Goals as goal

pub returns-then-rank-first : goal.returns-then-rank-first
returns-then-rank-first c = start_noted _ _ _ c.if-rank-first.true

pub returns : goal.returns
returns c = start_first _ _ _ c.if-rank-first.false
