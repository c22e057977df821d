-- `explaining::bounds::outside_type` meets its contract: the tests tell the case of the type's code.
-- Assumes nothing.
use Rattle.explaining.proofs.TypeWords.{type_below, type_above, type_inside}
use Rattle.explaining.proofs.bounds.outside_type.Goals as goal

pub returns-then-code-lt-UINT32 : goal.returns-then-code-lt-UINT32
returns-then-code-lt-UINT32 c = type_below _ _ _ c.type_before-code.ensures c.if-code-lt-UINT32.true

pub returns-then-code-gt-INT64 : goal.returns-then-code-gt-INT64
returns-then-code-gt-INT64 c = type_above _ _ _ c.type_before-code.ensures c.if-code-gt-INT64.true

pub returns : goal.returns
returns c = type_inside _ _ _ c.type_before-code.ensures _ _ c.if-code-lt-UINT32.false c.if-code-gt-INT64.false c.number_at-n.ensures c.in_type.ensures
