use Rattle.scopes.proofs.Deciding.{width_35, width_36, width_other}
use Rattle.scopes.proofs.numbers.width_of.Goals as goal

pub returns-then-code-eq-UINT32 : goal.returns-then-code-eq-UINT32
returns-then-code-eq-UINT32 c = width_35 _ c.if-code-eq-UINT32.true

pub returns-then-code-eq-INT32 : goal.returns-then-code-eq-INT32
returns-then-code-eq-INT32 c = width_36 _ c.if-code-eq-UINT32.false c.if-code-eq-INT32.true

pub returns : goal.returns
returns c = width_other _ c.if-code-eq-UINT32.false c.if-code-eq-INT32.false
