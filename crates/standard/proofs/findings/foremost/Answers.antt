use Rattle.standard.proofs.Telling.{tell_start, tell_step, tell_end}
use mathlib.Core.Path.{refl}
use native.Mathlib.Omega.{arith}
use Rattle.standard.proofs.findings.foremost.Goals as goal

pub loop-i-init : goal.loop-i-init
loop-i-init c = tell_start _ _ _ _ _ _ _

pub loop-i-preserved : goal.loop-i-preserved
loop-i-preserved c = tell_step _ _ _ _ _ _ _ c.loop-i.i _ _ _ _ (omega arith) refl c.loop-i.invariant c.finding.ensures c.sooner-best.ensures

pub returns : goal.returns
returns c = tell_end _ _ _ _ _ _ _ c.loop-i.i _ (omega arith) c.loop-i.invariant
