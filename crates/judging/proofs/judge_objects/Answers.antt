-- `judging::judge_objects` meets its contract.
-- Assumes nothing.
use Rattle.judging.proofs.Judgements.{objects_start, objects_step, objects_end}
use native.Mathlib.Omega.{arith}
use Rattle.judging.proofs.judge_objects.Goals as goal

pub loop-i-init : goal.loop-i-init
loop-i-init c = objects_start _ _ _ _ _ c.args.known.now _ c.args.places.now

pub judge_object-f-requires : goal.judge_object-f-requires
judge_object-f-requires c = c.requires

pub loop-i-preserved : goal.loop-i-preserved
loop-i-preserved c = objects_step _ _ _ _ _ c.args.known.now _ c.args.places.now c.loop-i.i c.loop-i.best c.judge_object-f.result c.sooner-best.result c.sooner-best.ensures (omega arith) c.judge_object-f.ensures c.loop-i.invariant

pub returns : goal.returns
returns c = objects_end _ _ _ _ _ c.args.known.now _ c.args.places.now c.loop-i.i c.loop-i.best (omega arith) c.loop-i.invariant
