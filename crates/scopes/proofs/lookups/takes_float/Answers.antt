use Rattle.scopes.proofs.Taking.{float_none, float_in}
use borrow.Author.Rules.{rules}
use Rattle.scopes.proofs.lookups.takes_float.Goals as goal

pub returns-then-code-ne-FLOAT : goal.returns-then-code-ne-FLOAT
returns-then-code-ne-FLOAT c = float_none _ _ _ _ _ c.cell_of-code.ensures c.if-code-ne-FLOAT.true

pub returns : goal.returns
returns c = float_in _ _ _ _ _ c.cell_of-code.ensures c.if-code-ne-FLOAT.false _ c.float_at-f.ensures _ _ c.cell_of.ensures c.in_range.ensures
