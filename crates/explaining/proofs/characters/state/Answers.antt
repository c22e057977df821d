use native.Mathlib.Omega.{arith}
use mathlib.Core.Path.{sym, ◌∙◌}
use Rattle.explaining.proofs.Letters.{state_more, state_end}
use Rattle.explaining.proofs.characters.state.Goals as goal

pub loop-b-preserved : goal.loop-b-preserved
loop-b-preserved c = sym (state_more _ c.loop-b.b-index _ _ (omega arith) c.after-k.ensures) ∙ c.loop-b.invariant

pub returns : goal.returns
returns c = sym (state_end _ c.loop-b.b-index _ (omega arith)) ∙ c.loop-b.invariant
