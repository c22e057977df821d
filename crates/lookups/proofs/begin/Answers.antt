use native.Mathlib.Omega.{arith}
use Rattle.lookups.proofs.Linking.{begins_here, begins_next}
use Rattle.lookups.proofs.begin.Goals as goal

pub returns-then-row-eq0 : goal.returns-then-row-eq0
returns-then-row-eq0 c = λ st. begins_here st _ _ _ _ _ _

pub returns-then-h-last : goal.returns-then-h-last
returns-then-h-last c = λ st. begins_here st _ _ _ _ _ _

pub returns-then-h-last-2 : goal.returns-then-h-last-2
returns-then-h-last-2 c = λ st. begins_here st _ _ _ _ _ _

pub returns-then-h-end : goal.returns-then-h-end
returns-then-h-end c = λ st. begins_here st _ _ _ _ _ _

pub returns : goal.returns
returns c = λ st. begins_next st _ _ _ _ _ _ _ _ c.get-row.ensures c.if-row-eq0.false (omega arith) c.if-h-last-2.false (omega arith) c.min.ensures
