use native.Mathlib.Omega.{arith}
use Rattle.comparing.proofs.Columned.{holds_more, step_is}
use Rattle.comparing.proofs.columns.make_steps.Goals as goal

pub loop-i-preserved : goal.loop-i-preserved
loop-i-preserved c = holds_more _ _ _ _ c.loop-i.invariant (omega arith) (step_is _ _ _ _ _ _ _ _ _ c.get-a.ensures c.get-p.ensures c.step_at.ensures)
