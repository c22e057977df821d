use Rattle.explaining.proofs.Letters.{high_5, high_7, high_other}
use Rattle.explaining.proofs.characters.highest.Goals as goal

pub returns-then-state-eq5 : goal.returns-then-state-eq5
returns-then-state-eq5 c = high_5 _ c.if-state-eq5.true

pub returns-then-state-eq7 : goal.returns-then-state-eq7
returns-then-state-eq7 c = high_7 _ c.if-state-eq5.false c.if-state-eq7.true

pub returns : goal.returns
returns c = high_other _ c.if-state-eq5.false c.if-state-eq7.false
