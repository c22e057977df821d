-- `comparing::ordering::fill` meets its contract: the first i cells are those of their rows.
-- Assumes nothing.
use mathlib.Core.Path.{refl}
use Rattle.comparing.proofs.Columned.{holds_more}
use Rattle.comparing.proofs.Sought.{entry_is}
use native.Mathlib.Omega.{arith}
use Rattle.comparing.proofs.ordering.fill.Goals as goal

pub loop-i-preserved : goal.loop-i-preserved
loop-i-preserved c = holds_more _ _ _ _ c.loop-i.invariant (omega arith) (entry_is _ _ _ _ _ _ refl refl c.key_of-k.ensures.key)
