use Rattle.explaining.proofs.Letters.{low_4, low_6, low_other}
use Rattle.explaining.proofs.characters.lowest.Goals as goal

pub returns-then-state-eq4 : goal.returns-then-state-eq4
returns-then-state-eq4 c = low_4 _ c.if-state-eq4.true

pub returns-then-state-eq6 : goal.returns-then-state-eq6
returns-then-state-eq6 c = low_6 _ c.if-state-eq4.false c.if-state-eq6.true

pub returns : goal.returns
returns c = low_other _ c.if-state-eq4.false c.if-state-eq6.false
