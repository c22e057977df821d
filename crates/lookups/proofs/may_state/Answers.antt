use native.Mathlib.Omega.{arith}
use Rattle.lookups.proofs.Blocks.{may_state, states_nothing}
use Rattle.lookups.proofs.may_state.Goals as goal

pub returns-then-start-end : goal.returns-then-start-end
returns-then-start-end c = may_state _ _ _ _ _ _

pub returns : goal.returns
returns c = states_nothing _ _ _ _ _ _ _ c.start.ensures (omega arith)
