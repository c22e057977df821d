use Rattle.writing.proofs.Owners.{owned_past, owned_other, owned_row}
use native.Mathlib.Omega.{arith}
use Rattle.writing.proofs.values.has_owner.Goals as goal

pub returns-then-n-k : goal.returns-then-n-k
returns-then-n-k c = owned_past _ _ _ _ _ (omega arith)

pub returns-then-cell_of-sort : goal.returns-then-cell_of-sort
returns-then-cell_of-sort c = owned_other _ _ _ _ _ _ c.cell_of.ensures (omega arith)

pub returns : goal.returns
returns c = owned_row _ _ _ _ _ _ _ (omega arith) c.cell_of.ensures (omega arith) c.cell_of-2.ensures
