use Rattle.explaining.proofs.Letters.{begun_1, begun_2, begun_3, begun_4, begun_5, begun_6, begun_7, begun_8, begun_9, begun_10, begun_11}
use Rattle.explaining.proofs.characters.begun.Goals as goal

pub returns-then-b-lt128 : goal.returns-then-b-lt128
returns-then-b-lt128 c = begun_1 _ c.if-b-lt128.true

pub returns-then-b-lt194 : goal.returns-then-b-lt194
returns-then-b-lt194 c = begun_2 _ c.if-b-lt128.false c.if-b-lt194.true

pub returns-then-b-lt224 : goal.returns-then-b-lt224
returns-then-b-lt224 c = begun_3 _ c.if-b-lt194.false c.if-b-lt224.true

pub returns-then-b-lt225 : goal.returns-then-b-lt225
returns-then-b-lt225 c = begun_4 _ c.if-b-lt224.false c.if-b-lt225.true

pub returns-then-b-lt237 : goal.returns-then-b-lt237
returns-then-b-lt237 c = begun_5 _ c.if-b-lt225.false c.if-b-lt237.true

pub returns-then-b-lt238 : goal.returns-then-b-lt238
returns-then-b-lt238 c = begun_6 _ c.if-b-lt237.false c.if-b-lt238.true

pub returns-then-b-lt240 : goal.returns-then-b-lt240
returns-then-b-lt240 c = begun_7 _ c.if-b-lt238.false c.if-b-lt240.true

pub returns-then-b-lt241 : goal.returns-then-b-lt241
returns-then-b-lt241 c = begun_8 _ c.if-b-lt240.false c.if-b-lt241.true

pub returns-then-b-lt244 : goal.returns-then-b-lt244
returns-then-b-lt244 c = begun_9 _ c.if-b-lt241.false c.if-b-lt244.true

pub returns-then-b-lt245 : goal.returns-then-b-lt245
returns-then-b-lt245 c = begun_10 _ c.if-b-lt244.false c.if-b-lt245.true

pub returns : goal.returns
returns c = begun_11 _ c.if-b-lt245.false
