-- `judging::judge_objects` meets its contract.
-- Assumes nothing.
use Rattle.judging.proofs.Judgements.{JudgingObjects}
use Prim.Native.Nat.{◌-◌}
use Rattle.judging.proofs.judge_objects.Given as goal

abbrev pub invariant-loop-i : goal.invariant-loop-i
invariant-loop-i l = JudgingObjects l.text l.d l.e l.o l.st l.known l.z l.places l.i l.best
