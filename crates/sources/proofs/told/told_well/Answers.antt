use mathlib.Core.Path.{sym, ◌∙◌}
use native.Mathlib.Omega.{arith}
use Rattle.sources.proofs.Tellings.{told_none, told_many, told_some}
use Rattle.sources.proofs.told.told_well.Goals as goal

pub returns-then-lengths-eq0 : goal.returns-then-lengths-eq0
returns-then-lengths-eq0 c = sym (told_none _ _ c.if-lengths-eq0.true)

pub returns-then-lengths-gt-LENGTHS : goal.returns-then-lengths-gt-LENGTHS
returns-then-lengths-gt-LENGTHS c = sym (told_many _ _ (omega arith))

pub returns : goal.returns
returns c = c.fitting.ensures ∙ sym (told_some _ _ c.if-lengths-eq0.false (omega arith))
