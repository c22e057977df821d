use native.Mathlib.Omega.{arith}
use Rattle.masks.proofs.Looping.{taken_start, taken_turn, taken_end}
use Rattle.masks.proofs.marks.Tasks.taken_bits.Goals as goal

pub loop-t-init : goal.loop-t-init
loop-t-init c = taken_start _ _ _ _ _

pub loop-t-preserved : goal.loop-t-preserved
loop-t-preserved c = taken_turn _ _ _ _ _ c.loop-t.b _ c.loop-t.t (omega arith) c.gather_in-b.ensures c.loop-t.invariant

pub returns : goal.returns
returns c = taken_end _ _ _ _ _ _ c.loop-t.t (omega arith) c.loop-t.invariant
