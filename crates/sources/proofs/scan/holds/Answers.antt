use Rattle.sources.proofs.Plains.{holds_none, holds_next, holds_all}
use native.Mathlib.Omega.{arith}
use mathlib.Core.Path.{◌∙◌}
use Rattle.sources.proofs.scan.holds.Goals as goal

pub loop-i-init : goal.loop-i-init
loop-i-init c = holds_none _ c.args.text.now

pub loop-i-preserved : goal.loop-i-preserved
loop-i-preserved c = holds_next _ _ c.loop-i.i c.loop-i.seen _ (omega arith) c.loop-i.invariant c.either-seen.ensures

pub returns : goal.returns
returns c = c.loop-i.invariant ∙ holds_all _ _ c.loop-i.i (omega arith)
