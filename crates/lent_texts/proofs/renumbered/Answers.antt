use Rattle.lent_texts.proofs.Told.{number_three, number_other}
use Rattle.lent_texts.proofs.renumbered.Goals as goal

pub returns-then-number-eq-NO_TOKEN : goal.returns-then-number-eq-NO_TOKEN
returns-then-number-eq-NO_TOKEN c = number_three _ _ c.if-number-eq-NO_TOKEN.true

pub returns : goal.returns
returns c = number_other _ _ c.if-number-eq-NO_TOKEN.false
