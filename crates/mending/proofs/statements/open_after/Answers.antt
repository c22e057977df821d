use mathlib.Core.Path.{◌∙◌}
use Rattle.mending.proofs.Endings.{opens, closes_one, stays_open}
use Rattle.mending.proofs.statements.open_after.Goals as goal

pub returns-then-b-eq123 : goal.returns-then-b-eq123
returns-then-b-eq123 c = opens _ _ c.if-b-eq123.true

pub returns-then-b-eq125 : goal.returns-then-b-eq125
returns-then-b-eq125 c = c.saturating_sub.ensures ∙ closes_one _ _ c.if-b-eq123.false c.if-b-eq125.true

pub returns-else-b-eq125 : goal.returns-else-b-eq125
returns-else-b-eq125 c = stays_open _ _ c.if-b-eq123.false c.if-b-eq125.false
