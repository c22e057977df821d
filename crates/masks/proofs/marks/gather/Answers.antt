use native.Mathlib.Omega.{arith}
use Rattle.masks.proofs.Looping.{gather_turn, gather_end}
use Rattle.masks.proofs.marks.gather.Goals as goal

pub loop-j-preserved : goal.loop-j-preserved
loop-j-preserved c = gather_turn _ _ _ _ c.loop-j.b _ c.loop-j.j (omega arith) c.gather_one-b.ensures c.loop-j.invariant

pub returns : goal.returns
returns c = gather_end _ _ _ _ _ c.loop-j.j (omega arith) c.loop-j.invariant
