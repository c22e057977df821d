use mathlib.Core.Path.{◌∙◌}
use Rattle.sources.proofs.Stops.{hash_is, hash_other}
use Rattle.sources.proofs.lines.hash_at.Goals as goal

pub returns-then-text-at-eq35 : goal.returns-then-text-at-eq35
returns-then-text-at-eq35 c = c.line_of.ensures ∙ hash_is _ _ _ c.if-text-at-eq35.true

pub returns : goal.returns
returns c = hash_other _ _ _ c.if-text-at-eq35.false
