use Rattle.sources.proofs.Singles.{up_more, up_end, up_start}
use native.Mathlib.Omega.{arith}
use lib.ListN.{length-set}
use mathlib.Core.Path.{refl, sym, ◌∙◌}
use Rattle.sources.proofs.filling.count_up.Goals as goal

pub loop-i-init : goal.loop-i-init
loop-i-init c = (refl, up_start c.args.cells.now c.args.at c.args.first c.args.n)

pub loop-i-preserved : goal.loop-i-preserved
loop-i-preserved c = (simp length-set c.loop-i.invariant.0, sym (up_more _ _ _ c.loop-i.i _ (omega arith)) ∙ c.loop-i.invariant.1)

pub returns : goal.returns
returns c = up_end _ _ _ c.loop-i.i _ (omega arith) ∙ c.loop-i.invariant.1
