use Rattle.scopes.proofs.Ranging.{range_zero, in_two, below_two, in_first, in_rest}
use borrow.Author.Rules.{rules}
use Rattle.scopes.proofs.bounds.in_range.Goals as goal

pub returns-then-range-eq0 : goal.returns-then-range-eq0
returns-then-range-eq0 c = range_zero _ _ _ c.if-range-eq0.true

pub returns-then-at_most : goal.returns-then-at_most
returns-then-at_most c = in_two _ _ c.if-range-eq0.false _ _ _ c.item_at-o.ensures c.item_at-a.ensures c.item_at-s.ensures _ _ _ _ c.if-s-eq46.true c.item_at-b.ensures c.at_most.ensures c.if-at_most.true c.at_most-then-at_most.ensures

pub returns-then-s-eq46 : goal.returns-then-s-eq46
returns-then-s-eq46 c = below_two _ _ c.if-range-eq0.false _ _ _ c.item_at-o.ensures c.item_at-a.ensures c.item_at-s.ensures _ _ _ c.if-s-eq46.true c.item_at-b.ensures c.at_most.ensures c.if-at_most.false

pub returns-then-equal : goal.returns-then-equal
returns-then-equal c = in_first _ _ c.if-range-eq0.false _ _ _ c.item_at-o.ensures c.item_at-a.ensures c.item_at-s.ensures _ c.if-s-eq46.false _ c.equal.ensures c.if-equal.true

pub returns : goal.returns
returns c = in_rest _ _ c.if-range-eq0.false _ _ _ c.item_at-o.ensures c.item_at-a.ensures c.item_at-s.ensures _ c.if-s-eq46.false _ c.equal.ensures _ c.if-equal.false c.is_listed.ensures
