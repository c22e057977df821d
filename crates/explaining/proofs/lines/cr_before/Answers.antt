-- `explaining::lines::cr_before` meets its contract: at each `return` the tests say which case of `cr_before` holds.
-- Assumes nothing.
use Rattle.explaining.proofs.Ends.{cr_past, cr_first, cr_byte}
use Rattle.explaining.proofs.lines.cr_before.Goals as goal

pub returns-then-text-end : goal.returns-then-text-end
returns-then-text-end c = cr_past _ _ c.if-text-end.true

pub returns-then-end-eq0 : goal.returns-then-end-eq0
returns-then-end-eq0 c = cr_first _ _ c.if-end-eq0.true

pub returns : goal.returns
returns c = cr_byte _ _ c.if-text-end.false c.if-end-eq0.false
