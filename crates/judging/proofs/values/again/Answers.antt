-- `judging::values::again` meets its contract.
-- Assumes nothing.
use Rattle.judging.proofs.Judgements.{again_list, again_single}
use Rattle.judging.proofs.values.again.Goals as goal

pub returns-then-cell_of-ne0 : goal.returns-then-cell_of-ne0
returns-then-cell_of-ne0 c = λ f x y b a h q. again_list a c.cell_of.result b c.cell_of.ensures c.if-cell_of-ne0.true

pub returns : goal.returns
returns c = λ f x y b a h q. again_single a c.cell_of.result _ _ c.is_before.result b c.cell_of.ensures c.if-cell_of-ne0.false h q c.is_before.ensures
