use Rattle.scopes.proofs.Floating.{floats_zero, floats_in, floats_below}
use mathlib.Core.Path.{refl}
use Rattle.scopes.proofs.floats.in_range.Goals as goal

pub returns-then-range-eq0 : goal.returns-then-range-eq0
returns-then-range-eq0 c = floats_zero _ _ _ c.if-range-eq0.true

pub returns-then-at_most : goal.returns-then-at_most
returns-then-at_most c = floats_in _ _ c.if-range-eq0.false _ _ _ c.item_at-o.ensures c.item_at-a.ensures c.item_at-s.ensures _ _ c.float_at-low.ensures c.float_at-high.ensures _ _ _ c.at_most.ensures c.if-at_most.true c.at_most-then-at_most.ensures

pub returns : goal.returns
returns c = floats_below _ _ c.if-range-eq0.false _ _ _ c.item_at-o.ensures c.item_at-a.ensures c.item_at-s.ensures _ _ c.float_at-low.ensures refl _ _ c.at_most.ensures c.if-at_most.false
