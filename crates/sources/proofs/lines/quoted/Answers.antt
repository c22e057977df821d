use mathlib.Core.Path.{◌∙◌}
use native.Mathlib.Omega.{arith}
use Rattle.sources.proofs.Namings.{quoted_past, quoted_quote, quoted_angle, quoted_none}
use Rattle.sources.proofs.lines.quoted.Goals as goal

pub returns-then-line-at : goal.returns-then-line-at
returns-then-line-at c = quoted_past _ _ (omega arith)

pub returns-then-b-eq34 : goal.returns-then-b-eq34
returns-then-b-eq34 c = c.closing.ensures ∙ quoted_quote _ _ c.if-b-eq34.true

pub returns-then-b-eq60 : goal.returns-then-b-eq60
returns-then-b-eq60 c = c.closing-then-b-eq60.ensures ∙ quoted_angle _ _ c.if-b-eq34.false c.if-b-eq60.true

pub returns : goal.returns
returns c = quoted_none _ _ c.if-b-eq34.false c.if-b-eq60.false
