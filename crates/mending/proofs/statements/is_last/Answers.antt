use mathlib.Core.Path.{refl}
use Rattle.mending.proofs.Endings.{not_semicolon, semicolon}
use Rattle.mending.proofs.statements.is_last.Goals as goal

pub returns-then-b-eq59 : goal.returns-then-b-eq59
returns-then-b-eq59 c = semicolon _ _ _ c.if-b-eq59.true refl

pub returns-else-b-eq59 : goal.returns-else-b-eq59
returns-else-b-eq59 c = not_semicolon _ _ c.if-b-eq59.false
