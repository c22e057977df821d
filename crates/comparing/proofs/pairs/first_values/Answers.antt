-- `comparing::pairs::first_values` meets its contract.
-- Assumes nothing.
use native.Mathlib.Omega.{arith}
use mathlib.Core.Path.{refl}
use Rattle.comparing.proofs.Pairing.{gathering_next, gathering_end}
use Rattle.comparing.proofs.pairs.first_values.Goals as goal

pub loop-k-preserved : goal.loop-k-preserved
loop-k-preserved c = gathering_next _ _ _ _ _ _ _ _ _ _ _ _ c.loop-k.all c.one_first-all.result c.loop-k.k _ c.loop-k.invariant (omega arith) refl c.one_first-all.ensures

pub returns : goal.returns
returns c = gathering_end _ _ _ _ _ _ _ _ _ _ _ _ _ c.loop-k.k c.loop-k.invariant (omega arith)
