use Rattle.checks.proofs.Applications.{met_start, met_end}
use native.Mathlib.Omega.{arith}
use Rattle.checks.proofs.objects.check_parts.Goals as goal

pub loop-j-init : goal.loop-j-init
loop-j-init c = (omega arith, λ s f N. met_start f)

pub loop-j-preserved : goal.loop-j-preserved
loop-j-preserved c = (omega (arith, c.check_one-y.ensures.0), λ s f N. c.check_one-y.ensures.1 s _ f N (omega arith) (c.loop-j.invariant.1 s f N))

pub returns : goal.returns
returns c = λ s f N. met_end (omega arith) (omega arith) (c.loop-j.invariant.1 s f N)
