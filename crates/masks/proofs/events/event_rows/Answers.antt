use native.Mathlib.Omega.{arith}
use Rattle.masks.proofs.Storing.{putting_start, putting_more, putting_end}
use Rattle.masks.proofs.events.event_rows.Goals as goal

pub loop-i-init : goal.loop-i-init
loop-i-init c = putting_start _ _ _

pub put_event-e-requires : goal.put_event-e-requires
put_event-e-requires c = omega (arith, c.loop-i.invariant.high)

pub loop-i-preserved : goal.loop-i-preserved
loop-i-preserved c = putting_more (omega arith) c.put_event-e.auto.rows c.put_event-e.ensures c.loop-i.invariant

pub shape_of-rows : goal.shape_of-rows
shape_of-rows c = c.loop-i.invariant.size

pub returns : goal.returns
returns c = putting_end (omega arith) c.loop-i.invariant
