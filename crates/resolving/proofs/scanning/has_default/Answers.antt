use mathlib.Core.Path.{refl}
use Rattle.resolving.proofs.Passing.{bare_none, bare_not, not_bare}
use Rattle.resolving.proofs.scanning.has_default.Goals as goal

pub returns-then-d-p-eq0 : goal.returns-then-d-p-eq0
returns-then-d-p-eq0 c = bare_none refl c.if-d-p-eq0.true

pub returns-then-d-p-eq-NO_DEFAULT : goal.returns-then-d-p-eq-NO_DEFAULT
returns-then-d-p-eq-NO_DEFAULT c = bare_not refl c.if-d-p-eq-NO_DEFAULT.true

pub returns : goal.returns
returns c = not_bare
