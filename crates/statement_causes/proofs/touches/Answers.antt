use lib.Dec.{eqb}
use mathlib.Core.Path.{sym, ◌∙◌, ap}
use Rattle.statement_causes.proofs.Seeking.{touched_name, touched_value, touched_last}
use Rattle.statement_causes.proofs.touches.Goals as goal

pub returns-then-cell_of-place : goal.returns-then-cell_of-place
returns-then-cell_of-place c = touched_name _ _ _ (sym c.cell_of.ensures ∙ c.if-cell_of-place.true)

pub returns-then-cell_of-place-2 : goal.returns-then-cell_of-place-2
returns-then-cell_of-place-2 c = touched_value _ _ _ (λ z. c.if-cell_of-place.false (c.cell_of.ensures ∙ z)) (sym c.cell_of-2.ensures ∙ c.if-cell_of-place-2.true)

pub returns : goal.returns
returns c = ap (λ i. eqb i c.args.place) c.cell_of-3.ensures ∙ touched_last _ _ _ (λ z. c.if-cell_of-place.false (c.cell_of.ensures ∙ z)) (λ z. c.if-cell_of-place-2.false (c.cell_of-2.ensures ∙ z))
