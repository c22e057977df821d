use mathlib.Core.Bool.{not}
use mathlib.Core.Path.{ap}
use mathlib.Core.Path.{sym, ◌∙◌}
use Rattle.rows.proofs.Orders.{fault_if_true, fault_if_false}
use borrow.Author.Tests.{not-true, not-false}
use Rattle.scopes.proofs.Ranging.{bound_zero, bound-crossed, bound-low, bound-high, bound-first, bound-rest}
use borrow.Author.Rules.{rules}
use Rattle.std.specs.Prelude.{Some}
use Rattle.scopes.proofs.bounds.bound_fault.Goals as goal

pub returns-then-range-eq0 : goal.returns-then-range-eq0
returns-then-range-eq0 c = bound_zero _ _ _ c.if-range-eq0.true

pub returns-then-not-at_most : goal.returns-then-not-at_most
returns-then-not-at_most c = λ b d. ap Some c.wrong_bound.ensures ∙ bound-crossed _ _ _ c.if-range-eq0.false _ _ _ c.item_at-o.ensures c.item_at-a.ensures c.item_at-s.ensures _ c.if-s-eq46.true c.item_at-b.ensures _ c.at_most.ensures c.if-not-at_most.true b d

pub returns-then-not-in_type : goal.returns-then-not-in_type
returns-then-not-in_type c = λ b d. ap Some c.wrong_bound-then-not-in_type.ensures ∙ bound-low _ _ _ c.if-range-eq0.false _ _ _ c.item_at-o.ensures c.item_at-a.ensures c.item_at-s.ensures _ c.if-s-eq46.true c.item_at-b.ensures _ c.at_most.ensures c.if-not-at_most.false _ c.in_type.ensures c.if-not-in_type.true b d

pub returns-then-not-in_type-2 : goal.returns-then-not-in_type-2
returns-then-not-in_type-2 c = bound-high _ _ _ c.if-range-eq0.false _ _ _ c.item_at-o.ensures c.item_at-a.ensures c.item_at-s.ensures _ c.if-s-eq46.true c.item_at-b.ensures _ c.at_most.ensures c.if-not-at_most.false _ c.in_type.ensures _ _ c.if-not-in_type.false c.in_type-then-s-eq46.ensures (ap Some c.wrong_bound-then-not-in_type-2.ensures ∙ sym (fault_if_true _ _ _ (ap not c.if-not-in_type-2.true)))

pub returns-then-s-eq46 : goal.returns-then-s-eq46
returns-then-s-eq46 c = bound-high _ _ _ c.if-range-eq0.false _ _ _ c.item_at-o.ensures c.item_at-a.ensures c.item_at-s.ensures _ c.if-s-eq46.true c.item_at-b.ensures _ c.at_most.ensures c.if-not-at_most.false _ c.in_type.ensures _ _ c.if-not-in_type.false c.in_type-then-s-eq46.ensures (sym (fault_if_false _ _ _ (ap not c.if-not-in_type-2.false)))

pub returns-then-not-in_type-3 : goal.returns-then-not-in_type-3
returns-then-not-in_type-3 c = λ b d. ap Some c.wrong_bound-then-not-in_type-3.ensures ∙ bound-first _ _ _ c.if-range-eq0.false _ _ _ c.item_at-o.ensures c.item_at-a.ensures c.item_at-s.ensures c.if-s-eq46.false _ c.in_type-2.ensures c.if-not-in_type-3.true b d

pub returns : goal.returns
returns c = bound-rest _ _ _ c.if-range-eq0.false _ _ _ c.item_at-o.ensures c.item_at-a.ensures c.item_at-s.ensures c.if-s-eq46.false _ c.in_type-2.ensures _ c.if-not-in_type-3.false c.list_fault.ensures
