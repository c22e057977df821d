use Rattle.scopes.proofs.Deciding.{signed_35, signed_not}
use Rattle.scopes.proofs.numbers.is_signed.Goals as goal

pub returns-then-code-eq-UINT32 : goal.returns-then-code-eq-UINT32
returns-then-code-eq-UINT32 c = signed_35 _ c.if-code-eq-UINT32.true

pub returns : goal.returns
returns c = signed_not _ c.if-code-eq-UINT32.false
