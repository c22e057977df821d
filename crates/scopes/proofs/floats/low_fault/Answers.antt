use mathlib.Core.Path.{sym, ◌∙◌, ap}
use mathlib.Core.Bool.{not}
use Rattle.rows.proofs.Orders.{fault_if_true, fault_if_false}
use Rattle.scopes.proofs.Floating.{low_zero, low_is}
use borrow.Author.Rules.{rules}
use Rattle.std.specs.Prelude.{Some}
use Rattle.scopes.proofs.floats.low_fault.Goals as goal

pub returns-then-range-eq0 : goal.returns-then-range-eq0
returns-then-range-eq0 c = low_zero _ _ c.if-range-eq0.true

pub returns-then-not-at_most : goal.returns-then-not-at_most
returns-then-not-at_most c = low_is _ _ c.if-range-eq0.false _ _ _ c.item_at-o.ensures c.item_at-a.ensures c.item_at-s.ensures _ _ c.float_at-low.ensures c.float_at-high.ensures _ _ c.at_most.ensures (ap Some c.wrong_bound.ensures ∙ sym (fault_if_true _ _ _ (ap not c.if-not-at_most.true)))

pub returns : goal.returns
returns c = low_is _ _ c.if-range-eq0.false _ _ _ c.item_at-o.ensures c.item_at-a.ensures c.item_at-s.ensures _ _ c.float_at-low.ensures c.float_at-high.ensures _ _ c.at_most.ensures (sym (fault_if_false _ _ _ (ap not c.if-not-at_most.false)))
