-- `judging::marking::single` meets its contract.
-- Assumes nothing.
use borrow.Author.Tests.{eq-eqb, ne_eqb}
use mathlib.Core.Path.{sym, ◌∙◌, ap}
use Rattle.token.specs.Find.{bit}
use Rattle.judging.proofs.marking.single.Goals as goal

pub returns-then-cell_of-eq0 : goal.returns-then-cell_of-eq0
unfolding bit
returns-then-cell_of-eq0 c = sym (ap bit (eq-eqb _ 0 (sym c.cell_of.ensures ∙ c.if-cell_of-eq0.true)))

pub returns : goal.returns
unfolding bit
returns c = sym (ap bit (ne_eqb _ 0 (λ h. c.if-cell_of-eq0.false (c.cell_of.ensures ∙ h))))
