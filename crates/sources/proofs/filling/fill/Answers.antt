use mathlib.Core.Path.{◌∙◌}
use native.Mathlib.Omega.{arith}
use Rattle.sources.proofs.Singles.{fill_long, fill_short}
use Rattle.sources.proofs.filling.fill.Goals as goal

pub returns-then-limit-total : goal.returns-then-limit-total
returns-then-limit-total c = c.too_long.ensures ∙ fill_long _ _ _ _ _ (omega arith)

pub returns : goal.returns
returns c = fill_short _ _ _ _ _ (omega arith)
