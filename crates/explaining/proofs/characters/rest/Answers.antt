use Rattle.explaining.proofs.Letters.{rest_1, rest_2, rest_3, rest_4, rest_6}
use Rattle.explaining.proofs.characters.rest.Goals as goal

pub returns-then-state-lt2 : goal.returns-then-state-lt2
returns-then-state-lt2 c = rest_1 _ c.if-state-lt2.true

pub returns-then-state-eq2 : goal.returns-then-state-eq2
returns-then-state-eq2 c = rest_2 _ c.if-state-lt2.false c.if-state-eq2.true

pub returns-then-state-eq3 : goal.returns-then-state-eq3
returns-then-state-eq3 c = rest_3 _ c.if-state-lt2.false c.if-state-eq2.false c.if-state-eq3.true

pub returns-then-state-lt6 : goal.returns-then-state-lt6
returns-then-state-lt6 c = rest_4 _ c.if-state-lt2.false c.if-state-eq2.false c.if-state-eq3.false c.if-state-lt6.true

pub returns : goal.returns
returns c = rest_6 _ c.if-state-lt2.false c.if-state-eq2.false c.if-state-eq3.false c.if-state-lt6.false
