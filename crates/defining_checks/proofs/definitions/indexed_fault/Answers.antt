use native.Mathlib.Omega.{arith}
use Rattle.indexes.proofs.Throughs.{through_both}
use Rattle.defining_checks.proofs.definitions.indexed_fault.Goals as goal

pub returns : goal.returns
returns c = through_both _ _ _ _ _ _ _ _ _ c.requires.0 c.index.ensures _ _ _ _ (omega arith) (omega arith) c.index-2.ensures c.each_fault.ensures
