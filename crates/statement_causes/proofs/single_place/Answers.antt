use mathlib.Core.Path.{sym, ◌∙◌}
use Rattle.statement_causes.proofs.Missings.{single_one, single_list}
use Rattle.statement_causes.proofs.single_place.Goals as goal

pub returns-then-cell_of-eq0 : goal.returns-then-cell_of-eq0
returns-then-cell_of-eq0 c = c.cell_of-then-cell_of-eq0.ensures ∙ single_one _ _ (sym c.cell_of.ensures ∙ c.if-cell_of-eq0.true)

pub returns : goal.returns
returns c = single_list _ _ (λ z. c.if-cell_of-eq0.false (c.cell_of.ensures ∙ z))
