use native.Mathlib.Omega.{arith}
use Rattle.comparing.proofs.Columned.{holds_more, owner_is}
use Rattle.comparing.proofs.columns.copy_owners.Goals as goal

pub loop-i-preserved : goal.loop-i-preserved
loop-i-preserved c = holds_more _ _ _ _ c.loop-i.invariant (omega arith) (owner_is _ _ _ _ c.owner_at.ensures)
