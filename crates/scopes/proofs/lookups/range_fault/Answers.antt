use Rattle.scopes.proofs.Taking.{range_below, range_above, range_float, range_between}
use borrow.Author.Rules.{rules}
use Rattle.scopes.proofs.lookups.range_fault.Goals as goal

pub returns-then-code-lt-UINT32 : goal.returns-then-code-lt-UINT32
returns-then-code-lt-UINT32 c = range_below _ _ _ _ c.cell_of-code.ensures c.if-code-lt-UINT32.true

pub returns-then-code-eq-FLOAT : goal.returns-then-code-eq-FLOAT
returns-then-code-eq-FLOAT c = range_float _ _ _ _ c.cell_of-code.ensures c.if-code-eq-FLOAT.true _ _ c.cell_of.ensures c.low_fault.ensures

pub returns-then-code-gt-INT64 : goal.returns-then-code-gt-INT64
returns-then-code-gt-INT64 c = range_above _ _ _ _ c.cell_of-code.ensures c.if-code-gt-INT64.true c.if-code-eq-FLOAT.false

pub returns : goal.returns
returns c = range_between _ _ _ _ c.cell_of-code.ensures c.if-code-lt-UINT32.false c.if-code-gt-INT64.false _ _ c.cell_of-2.ensures c.bound_fault.ensures
