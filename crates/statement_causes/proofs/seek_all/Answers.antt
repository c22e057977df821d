use mathlib.Core.Path.{refl}
use Rattle.statement_causes.proofs.Seeking.{objects_stop, objects_more, objects_end}
use Rattle.statement_causes.proofs.seek_all.Goals as goal

pub returns-then-spot : goal.returns-then-spot
returns-then-spot c = objects_stop _ _ _ _ _ _ c.args.places.now c.args.place c.loop-i.i c.seek_object-spot.result c.loop-i-test.true c.seek_object-spot.ensures c.loop-i.invariant c.if-spot.true

pub loop-i-preserved : goal.loop-i-preserved
loop-i-preserved c = objects_more _ _ _ _ _ _ c.args.places.now c.args.place c.loop-i.i c.seek_object-spot.result c.loop-i-test.true c.seek_object-spot.ensures c.loop-i.invariant c.if-spot.false

pub returns : goal.returns
returns c = objects_end _ _ _ _ _ _ c.args.places.now c.args.place c.loop-i.i _ c.loop-i-test.false refl c.loop-i.invariant
