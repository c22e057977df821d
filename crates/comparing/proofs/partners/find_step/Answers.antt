-- `comparing::partners::find_step` meets its contract: of the rows that are asked for, the first is that of the cell at the place.
-- Assumes nothing.
use Rattle.comparing.proofs.Sought.{finds_past, finds_other, finds_there}
use Rattle.comparing.proofs.partners.find_step.Goals as goal

pub returns-then-x-p : goal.returns-then-x-p
returns-then-x-p c = finds_past _ _ _ _ _ c.key_of-k.ensures c.first_place-p.ensures c.if-x-p.true

pub returns-then-c-k : goal.returns-then-c-k
returns-then-c-k c = finds_other _ _ _ _ _ c.key_of-k.ensures c.first_place-p.ensures c.if-x-p.false c.if-c-k.true

pub returns : goal.returns
returns c = finds_there _ _ _ _ _ c.key_of-k.ensures c.first_place-p.ensures c.if-x-p.false c.if-c-k.false
