use native.Mathlib.Omega.{arith}
use mathlib.Core.Path.{refl}
use Rattle.comparing.proofs.Seconds.{seconding_next, seconding_end}
use Rattle.comparing.proofs.pairs.second_values.Goals as goal

pub loop-k-preserved : goal.loop-k-preserved
loop-k-preserved c = seconding_next _ _ _ _ _ c.loop-k.all c.one_second-all.result c.loop-k.k _ c.loop-k.invariant (omega arith) refl c.one_second-all.ensures

pub returns : goal.returns
returns c = seconding_end _ _ _ _ _ _ c.loop-k.k c.loop-k.invariant (omega arith)
