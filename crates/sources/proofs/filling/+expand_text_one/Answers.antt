use native.Mathlib.Omega.{arith}
use mathlib.Core.Path.{refl}
use Rattle.sources.proofs.Fillings.{expand_none, goes_none, goes_then, stepped, finished, loop_done, stop_done, front-done, text-steps, text-done, done, puts_bytes, puts_origins, inner_fills, filled_whole, fill_total}
use Rattle.sources.proofs.Notings.{event_is, inner_asks, noted_next}
use Rattle.sources.proofs.Tellings.{told}
use Rattle.sources.proofs.Pieces.{stop_fits, include_fits}
use Rattle.sources.specs.Expanding.{origin}
use Rattle.sources.proofs.filling.+expand_text_one.Goals as goal

pub expand_text-fill-requires : goal.expand_text-fill-requires
expand_text-fill-requires t c = c.requires.0.limit

pub expand_text-returns-then-frame-eq0 : goal.expand_text-returns-then-frame-eq0
expand_text-returns-then-frame-eq0 t c = expand_none _ _ _ _ _ _ _ _ _ _ _ c.if-frame-eq0.true c.requires.0.place c.fill.ensures

pub expand_text-overflow_sub-inside : goal.expand_text-overflow_sub-inside
expand_text-overflow_sub-inside t c = omega arith

pub expand_text-loop-after-init : goal.expand_text-loop-after-init
expand_text-loop-after-init t c = (c.requires.1, refl, refl, goes_none _ _ _ _ _ c.requires.0.place)

pub expand_text-one-requires : goal.expand_text-one-requires
expand_text-one-requires t c = (omega arith, (record { told = c.requires.0.told; number = c.requires.0.number; limit = c.requires.0.limit; bytes = omega arith; origins = omega arith; place = c.loop-after.invariant.3.room; notes = c.requires.0.notes; noted = c.requires.0.noted }, c.loop-after.invariant.0))

pub expand_text-loop-after-smaller : goal.expand_text-loop-after-smaller
expand_text-loop-after-smaller t c = let v = stepped _ c.one.ensures c.in-Continue.is in let x = v.later in let y = v.inside in omega arith

pub expand_text-loop-after-preserved : goal.expand_text-loop-after-preserved
expand_text-loop-after-preserved t c = let v = stepped _ c.one.ensures c.in-Continue.is in (record { short = c.loop-after.invariant.0.short; inside = v.inside; noted = v.noted }, omega arith, omega arith, goes_then _ c.loop-after.invariant.3 v.goes)

pub expand_text-shape_of-out-in-Break : goal.expand_text-shape_of-out-in-Break
expand_text-shape_of-out-in-Break t c = omega arith

pub expand_text-shape_of-origins-in-Break : goal.expand_text-shape_of-origins-in-Break
expand_text-shape_of-origins-in-Break t c = omega arith

pub expand_text-returns-in-Break : goal.expand_text-returns-in-Break
expand_text-returns-in-Break t c = loop_done _ _ _ _ _ _ _ _ _ _ _ _ _ _ _ _ _ c.if-frame-eq0.false c.loop-after.invariant.3 (finished _ _ _ _ _ _ _ _ _ _ _ _ c.one.ensures c.in-Break.is)

pub one-event_noted-requires : goal.one-event_noted-requires
one-event_noted-requires t c = ((told _ _ c.requires.0.told).fit, (c.requires.0.number, (omega arith, c.requires.0.notes)))

pub one-put-end-requires : goal.one-put-end-requires
one-put-end-requires t c = (c.requires.1.inside, (omega arith, (c.requires.0.number, omega (arith, c.requires.0.place, c.requires.0.limit))))

pub one-overflow_sub-place : goal.one-overflow_sub-place
one-overflow_sub-place t c = (stop_fits _ _ 0 _ _ 0 _ _ _ c.requires.0.told c.requires.1.inside (event_is _ _ _ _ _ _ _ _ _ c.requires.0.told c.requires.1 c.event_noted.ensures c.in-Stop.is)).0

pub one-overflow_add-at : goal.one-overflow_add-at
one-overflow_add-at t c = let o = stop_fits _ _ 0 _ _ 0 _ _ _ c.requires.0.told c.requires.1.inside (event_is _ _ _ _ _ _ _ _ _ c.requires.0.told c.requires.1 c.event_noted.ensures c.in-Stop.is) in omega arith

pub one-fill-requires : goal.one-fill-requires
one-fill-requires t c = c.requires.0.limit

pub one-opened-inside-requires : goal.one-opened-inside-requires
one-opened-inside-requires t c = tt

pub one-put-start-requires : goal.one-put-start-requires
one-put-start-requires t c = let n = include_fits _ _ 0 _ _ 0 _ _ c.requires.0.told c.requires.1.inside (event_is _ _ _ _ _ _ _ _ _ c.requires.0.told c.requires.1 c.event_noted.ensures c.in-Include.is) in (n.first, (omega arith, (c.requires.0.number, omega (arith, c.requires.0.place, c.requires.0.limit))))

pub one-too_long-requires : goal.one-too_long-requires
one-too_long-requires t c = c.requires.0.limit

pub one-shape_of-out-then-limit-start : goal.one-shape_of-out-then-limit-start
one-shape_of-out-then-limit-start t c = omega arith

pub one-shape_of-origins-then-limit-start : goal.one-shape_of-origins-then-limit-start
one-shape_of-origins-then-limit-start t c = omega arith

pub one-returns-then-limit-start : goal.one-returns-then-limit-start
one-returns-then-limit-start t c = done _ _ _ _ _ _ _ _ _ _ _ (front-done _ _ _ _ _ _ _ _ _ _ _ _ c.requires.0.told c.requires.1.inside (event_is _ _ _ _ _ _ _ _ _ c.requires.0.told c.requires.1 c.event_noted.ensures c.in-Include.is) _ _ _ _ c.put-start.ensures c.requires.0.bytes c.requires.0.origins c.if-limit-start.true c.too_long.ensures)

pub one-slice_bounds-expand_text-count : goal.one-slice_bounds-expand_text-count
one-slice_bounds-expand_text-count t c = (include_fits _ _ 0 _ _ 0 _ _ c.requires.0.told c.requires.1.inside (event_is _ _ _ _ _ _ _ _ _ c.requires.0.told c.requires.1 c.event_noted.ensures c.in-Include.is)).low

pub one-slice_bounds-expand_text-start : goal.one-slice_bounds-expand_text-start
one-slice_bounds-expand_text-start t c = let n = include_fits _ _ 0 _ _ 0 _ _ c.requires.0.told c.requires.1.inside (event_is _ _ _ _ _ _ _ _ _ c.requires.0.told c.requires.1 c.event_noted.ensures c.in-Include.is) in omega arith

pub one-slice_bounds-expand_text-end : goal.one-slice_bounds-expand_text-end
one-slice_bounds-expand_text-end t c = let n = include_fits _ _ 0 _ _ 0 _ _ c.requires.0.told c.requires.1.inside (event_is _ _ _ _ _ _ _ _ _ c.requires.0.told c.requires.1 c.event_noted.ensures c.in-Include.is) in omega arith

pub one-expand_text-f-requires : goal.one-expand_text-f-requires
one-expand_text-f-requires t c = let n = include_fits _ _ 0 _ _ 0 _ _ c.requires.0.told c.requires.1.inside (event_is _ _ _ _ _ _ _ _ _ c.requires.0.told c.requires.1 c.event_noted.ensures c.in-Include.is) in (omega arith, (record { told = c.requires.0.told; number = n.number; limit = c.requires.0.limit; bytes = puts_bytes _ c.put-start.ensures c.requires.0.bytes; origins = puts_origins _ c.put-start.ensures c.requires.0.origins; place = c.if-limit-start.false; notes = c.requires.0.notes; noted = c.requires.0.noted }, inner_asks _ _ _ _ _ _ _ c.requires.0.told c.requires.0.noted n.number (event_is _ _ _ _ _ _ _ _ _ c.requires.0.told c.requires.1 c.event_noted.ensures c.in-Include.is)))

pub one-overflow_mul-frame : goal.one-overflow_mul-frame
one-overflow_mul-frame t c = omega (arith, c.requires.0.number)

pub one-overflow_add-frame : goal.one-overflow_add-frame
one-overflow_add-frame t c = let i = include_fits _ _ 0 _ _ 0 _ _ c.requires.0.told c.requires.1.inside (event_is _ _ _ _ _ _ _ _ _ c.requires.0.told c.requires.1 c.event_noted.ensures c.in-Include.is) in omega (arith, c.requires.0.number, i.after, i.last, c.requires.1.short)

pub one-line_end-requires : goal.one-line_end-requires
one-line_end-requires t c = let i = include_fits _ _ 0 _ _ 0 _ _ c.requires.0.told c.requires.1.inside (event_is _ _ _ _ _ _ _ _ _ c.requires.0.told c.requires.1 c.event_noted.ensures c.in-Include.is) in let w = filled_whole _ _ _ _ c.expand_text-f.ensures.result c.if-f-eq0.true in (c.requires.0.limit, (omega (arith, w.end, w.room), omega (arith, c.requires.0.number, i.after, i.last, c.requires.1.short)))

pub one-shape_of-out-then-f-eq0 : goal.one-shape_of-out-then-f-eq0
one-shape_of-out-then-f-eq0 t c = omega (arith, c.out-in-Include-1)

pub one-shape_of-origins-then-f-eq0 : goal.one-shape_of-origins-then-f-eq0
one-shape_of-origins-then-f-eq0 t c = omega arith

pub one-returns-then-f-eq0 : goal.one-returns-then-f-eq0
unfolding origin
one-returns-then-f-eq0 t c = text-steps _ _ _ _ _ _ _ _ _ _ _ _ c.requires.0.told c.requires.1.inside (event_is _ _ _ _ _ _ _ _ _ c.requires.0.told c.requires.1 c.event_noted.ensures c.in-Include.is) _ _ _ _ _ _ _ _ _ _ c.put-start.ensures c.if-limit-start.false (inner_fills _ _ _ _ _ _ _ _ _ _ _ _ _ c.opened-inside.ensures c.expand_text-f.ensures) c.if-f-eq0.true c.requires.0.bytes c.requires.0.origins (noted_next _ _ _ _ _ _ _ _ (event_is _ _ _ _ _ _ _ _ _ c.requires.0.told c.requires.1 c.event_noted.ensures c.in-Include.is) c.requires.1.noted) c.line_end.ensures

pub one-overflow_add-f : goal.one-overflow_add-f
one-overflow_add-f t c = let n = fill_total _ _ _ _ c.expand_text-f.ensures.result in omega (arith, n, c.requires.0.limit)

pub one-overflow_sub-text : goal.one-overflow_sub-text
one-overflow_sub-text t c = (include_fits _ _ 0 _ _ 0 _ _ c.requires.0.told c.requires.1.inside (event_is _ _ _ _ _ _ _ _ _ c.requires.0.told c.requires.1 c.event_noted.ensures c.in-Include.is)).last

pub one-overflow_add-f-in-Include : goal.one-overflow_add-f-in-Include
one-overflow_add-f-in-Include t c = let n = fill_total _ _ _ _ c.expand_text-f.ensures.result in omega (arith, n, c.requires.0.limit, c.requires.1.short)

pub one-fill-requires-in-Include : goal.one-fill-requires-in-Include
one-fill-requires-in-Include t c = c.requires.0.limit

pub one-shape_of-out-in-Stop : goal.one-shape_of-out-in-Stop
one-shape_of-out-in-Stop t c = omega arith

pub one-shape_of-origins-in-Stop : goal.one-shape_of-origins-in-Stop
one-shape_of-origins-in-Stop t c = omega arith

pub one-returns-in-Stop : goal.one-returns-in-Stop
one-returns-in-Stop t c = done _ _ _ _ _ _ _ _ _ _ _ (stop_done _ _ _ _ _ _ _ _ _ _ _ _ _ _ _ _ _ c.requires.0.told c.requires.1.inside (event_is _ _ _ _ _ _ _ _ _ c.requires.0.told c.requires.1 c.event_noted.ensures c.in-Stop.is) c.put-end.ensures c.fill.ensures)

pub one-shape_of-out-else-f-eq0 : goal.one-shape_of-out-else-f-eq0
one-shape_of-out-else-f-eq0 t c = omega arith

pub one-shape_of-origins-else-f-eq0 : goal.one-shape_of-origins-else-f-eq0
one-shape_of-origins-else-f-eq0 t c = omega arith

pub one-returns-else-f-eq0 : goal.one-returns-else-f-eq0
one-returns-else-f-eq0 t c = done _ _ _ _ _ _ _ _ _ _ _ (text-done _ _ _ _ _ _ _ _ _ _ _ _ c.requires.0.told c.requires.1.inside (event_is _ _ _ _ _ _ _ _ _ c.requires.0.told c.requires.1 c.event_noted.ensures c.in-Include.is) _ _ _ _ _ _ _ c.put-start.ensures c.if-limit-start.false (inner_fills _ _ _ _ _ _ _ _ _ _ _ _ _ c.opened-inside.ensures c.expand_text-f.ensures) c.if-f-eq0.false c.requires.0.bytes c.requires.0.origins c.fill-in-Include.ensures)
