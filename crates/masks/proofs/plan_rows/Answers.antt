use mathlib.Core.Path.{sym}
use Rattle.masks.proofs.Calls.{list_short, too_many_planned, handed_out, cleared, array_wide, front_long, front_within}
use Rattle.masks.proofs.plan_rows.Goals as goal

pub returns-then-list-e : goal.returns-then-list-e
returns-then-list-e c = list_short array_wide c.event_rows-e.ensures _ c.if-list-e.true

pub returns-then-e-gt-MOST : goal.returns-then-e-gt-MOST
returns-then-e-gt-MOST c = too_many_planned array_wide c.event_rows-e.ensures _ _ _ c.if-e-gt-MOST.true

pub slice_bounds-hand_out-end-2 : goal.slice_bounds-hand_out-end-2
slice_bounds-hand_out-end-2 c = front_long _ c.if-e-gt-MOST.false

pub hand_out-requires : goal.hand_out-requires
hand_out-requires c = front_within _ _ c.if-e-gt-MOST.false c.if-list-e.false

pub returns : goal.returns
returns c = handed_out array_wide c.event_rows-e.ensures _ _ _ _ cleared c.mark_all.ensures c.fill_given.ensures (sym (front_long _ c.if-e-gt-MOST.false)) c.if-list-e.false c.hand_out.ensures
