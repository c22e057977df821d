use native.Mathlib.Omega.{arith}
use Rattle.gathering.proofs.Shapes.{gathered, gathered_all, gathered_none, onward_next, bounds, unchanged}
use Rattle.gathering.proofs.add_all.Goals as goal

pub returns-in-Ok-None-clause-gathered : goal.returns-in-Ok-None-clause-gathered
returns-in-Ok-None-clause-gathered c = gathered (unchanged c.add_missing.new.buffer c.loop-number.invariant c.add_missing.auto.buffer) c.requires

pub returns-in-Err-clause-gathered : goal.returns-in-Err-clause-gathered
returns-in-Err-clause-gathered c = gathered_none c.add_missing.new.buffer c.loop-number.invariant c.requires

pub loop-number-preserved : goal.loop-number-preserved
loop-number-preserved c = onward_next _ _ _ _ c.loop-number.invariant c.add_missing.auto.buffer c.add_missing.auto.origins (omega arith) c.requires.lengths (bounds c.in-Ok-Some.ensures c.in-Ok-Some.field-0-is)

pub returns-clause-gathered : goal.returns-clause-gathered
returns-clause-gathered c = gathered_all c.loop-number.invariant (omega arith) c.requires
