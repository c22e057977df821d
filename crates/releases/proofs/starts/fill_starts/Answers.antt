use native.Mathlib.Omega.{arith}
use Rattle.releases.proofs.Starting.{start_next, start_none}
use Rattle.comparing.proofs.Columned.{holds_none, holds_more, holds_all}
use Rattle.releases.proofs.starts.fill_starts.Goals as goal

pub loop-i-init : goal.loop-i-init
loop-i-init c = (start_none _ _, holds_none _ _)

pub loop-i-preserved : goal.loop-i-preserved
loop-i-preserved c = (start_next _ _ _ _ _ c.loop-i.invariant.0 c.object_end-k.ensures, holds_more _ _ _ _ c.loop-i.invariant.1 (omega arith) c.loop-i.invariant.0)

pub returns : goal.returns
returns c = holds_all _ _ _ c.loop-i.invariant.1 (omega arith)
