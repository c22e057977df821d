use Rattle.scopes.proofs.Taking.{truth_one, truth_two, truth_none}
use borrow.Author.Rules.{rules}
use Rattle.scopes.proofs.lookups.truth_under.Goals as goal

pub returns-then-same_part : goal.returns-then-same_part
returns-then-same_part c = truth_one _ _ _ _ _ _ _ c.cell_of-first.ensures c.cell_of-size.ensures _ c.same_part.ensures c.if-same_part.true

pub returns-then-same_part-2 : goal.returns-then-same_part-2
returns-then-same_part-2 c = truth_two _ _ _ _ _ _ _ c.cell_of-first.ensures c.cell_of-size.ensures _ _ c.cell_of-second.ensures c.cell_of-size2.ensures _ _ c.same_part.ensures c.if-same_part.false c.same_part-2.ensures c.if-same_part-2.true

pub returns : goal.returns
returns c = truth_none _ _ _ _ _ _ _ c.cell_of-first.ensures c.cell_of-size.ensures _ _ c.cell_of-second.ensures c.cell_of-size2.ensures _ _ c.same_part.ensures c.if-same_part.false c.same_part-2.ensures c.if-same_part-2.false
