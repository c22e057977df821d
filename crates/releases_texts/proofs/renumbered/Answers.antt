use Rattle.lent_texts.proofs.Told.{number_three, number_other}
use Rattle.releases_texts.proofs.renumbered.Goals as goal

pub returns-then-number : goal.returns-then-number
returns-then-number c = number_three _ _ c.if-number.true

pub returns : goal.returns
returns c = number_other _ _ c.if-number.false
