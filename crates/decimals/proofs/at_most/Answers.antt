use Rattle.decimals.proofs.Powers.{power_left, other_way}
use mathlib.Core.Path.{◌∙◌}
use native.Mathlib.Omega.{arith}
use Rattle.decimals.proofs.at_most.Goals as goal

pub returns-then-l-k : goal.returns-then-l-k
returns-then-l-k c = c.scaled_at_most.ensures ∙ power_left _ _ _ _ c.if-l-k.true

pub returns-else-m-eq0 : goal.returns-else-m-eq0
returns-else-m-eq0 c = other_way c.args.m c.args.k c.args.n c.args.l (omega arith) (omega arith) _ c.scaled_at_most-else-m-eq0.ensures
