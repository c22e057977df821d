use mathlib.Core.Path.{sym, ◌∙◌}
use Rattle.sources.proofs.Events.{include_open, include_is, include_absent}
use Rattle.sources.proofs.Tellings.{told}
use Rattle.sources.proofs.finding.include_of.Goals as goal

pub find_name-requires : goal.find_name-requires
find_name-requires c = (told _ _ c.requires.told).fit

pub returns-then-cell-eq1 : goal.returns-then-cell-eq1
returns-then-cell-eq1 c = include_open _ _ _ _ _ _ _ _ _ (sym c.find_name.ensures ∙ c.in-Some.is) c.cell.ensures c.if-cell-eq1.true

pub returns-else-cell-eq1 : goal.returns-else-cell-eq1
returns-else-cell-eq1 c = include_is _ _ _ _ _ _ _ _ _ (sym c.find_name.ensures ∙ c.in-Some.is) c.cell.ensures c.if-cell-eq1.false

pub returns-in-None : goal.returns-in-None
returns-in-None c = include_absent _ _ _ _ _ (sym c.find_name.ensures ∙ c.in-None.is)
