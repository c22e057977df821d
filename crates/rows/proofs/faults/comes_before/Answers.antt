-- `rows::faults::comes_before` meets its contract: at each `return` the tests that led there say which case of `before` holds.
-- Assumes nothing.
use mathlib.Core.Path.{sym, ◌∙◌}
use borrow.Author.Tests.{ne_eqb}
use Rattle.rows.proofs.Orders.{before_nones, before_none, before_any, before_derived}
use Rattle.rows.proofs.faults.comes_before.Goals as goal

pub returns-then-b-eq0 : goal.returns-then-b-eq0
returns-then-b-eq0 c = sym (before_nones _ _ c.if-a-eq0.true c.if-b-eq0.true)

pub returns-else-b-eq0 : goal.returns-else-b-eq0
returns-else-b-eq0 c = ne_eqb _ 0 c.if-b-eq0.false ∙ sym (before_none _ _ c.if-a-eq0.true c.if-b-eq0.false)

pub returns-then-b-eq0-2 : goal.returns-then-b-eq0-2
returns-then-b-eq0-2 c = sym (before_any _ _ c.if-a-eq0.false c.if-b-eq0-2.true)

pub returns : goal.returns
returns c = c.lt.ensures ∙ before_derived _ _ c.if-a-eq0.false c.if-b-eq0-2.false
