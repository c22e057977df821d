use mathlib.Core.Bool.{not}
use mathlib.Core.Path.{ap}
use Rattle.standard.proofs.Spanning.{span_zero, high_past, low_decides, first_not, rest_decides}
use Rattle.standard.proofs.spans.within_one_two.Goals as goal

pub returns-then-range-eq0 : goal.returns-then-range-eq0
returns-then-range-eq0 c = span_zero _ _ c.if-range-eq0.true

pub returns-then-not-at_most : goal.returns-then-not-at_most
returns-then-not-at_most c = high_past _ _ c.if-range-eq0.false _ _ _ c.item_at-o.ensures c.item_at-a.ensures c.item_at-s.ensures _ _ c.if-s-eq46.true c.item_at-b.ensures c.at_most.ensures (ap not c.if-not-at_most.true)

pub returns-then-s-eq46 : goal.returns-then-s-eq46
returns-then-s-eq46 c = low_decides _ _ c.if-range-eq0.false _ _ _ c.item_at-o.ensures c.item_at-a.ensures c.item_at-s.ensures _ _ _ c.if-s-eq46.true c.item_at-b.ensures c.at_most.ensures (ap not c.if-not-at_most.false) c.is_one_or_two.ensures

pub returns-then-not-is_one_or_two : goal.returns-then-not-is_one_or_two
returns-then-not-is_one_or_two c = first_not _ _ c.if-range-eq0.false _ _ _ c.item_at-o.ensures c.item_at-a.ensures c.item_at-s.ensures _ c.if-s-eq46.false c.is_one_or_two-2.ensures (ap not c.if-not-is_one_or_two.true)

pub returns : goal.returns
returns c = rest_decides _ _ c.if-range-eq0.false _ _ _ c.item_at-o.ensures c.item_at-a.ensures c.item_at-s.ensures _ _ c.if-s-eq46.false c.is_one_or_two-2.ensures (ap not c.if-not-is_one_or_two.false) c.all_listed.ensures
