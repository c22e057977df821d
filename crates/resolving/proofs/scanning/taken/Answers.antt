use native.Mathlib.Omega.{arith}
use Rattle.resolving.proofs.Passing.{taken_none, taken_not}
use Rattle.resolving.proofs.scanning.taken.Goals as goal

pub returns-then-cell_of-eq0 : goal.returns-then-cell_of-eq0
returns-then-cell_of-eq0 c = taken_none _ _ c.cell_of.ensures c.if-cell_of-eq0.true

pub returns-then-cell_of-eq-NO_DEFAULT : goal.returns-then-cell_of-eq-NO_DEFAULT
returns-then-cell_of-eq-NO_DEFAULT c = taken_not _ _ c.cell_of-2.ensures c.if-cell_of-eq-NO_DEFAULT.true

pub returns : goal.returns
returns c = λ g. absurd (omega (arith, g))
