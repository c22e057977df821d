use Rattle.explaining.proofs.Letters.{start_low, start_inner, start_high}
use Rattle.explaining.proofs.characters.start.Goals as goal

pub returns-then-b-lt128 : goal.returns-then-b-lt128
returns-then-b-lt128 c = start_low _ c.if-b-lt128.true

pub returns-then-b-lt192 : goal.returns-then-b-lt192
returns-then-b-lt192 c = start_inner _ c.if-b-lt128.false c.if-b-lt192.true

pub returns : goal.returns
returns c = start_high _ c.if-b-lt128.false c.if-b-lt192.false
