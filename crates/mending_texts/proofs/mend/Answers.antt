use Rattle.lent_texts.proofs.Told.{passed_on}
use Rattle.mending_texts.proofs.Told.{stopped_mends, text_mends}
use Rattle.mending_texts.proofs.mend.Goals as goal

pub returns-in_err-e : goal.returns-in_err-e
returns-in_err-e c = stopped_mends c.expand.ensures c.in_err-e.was (passed_on c.from_residual.ensures.1)

pub returns : goal.returns
returns c = text_mends c.expand.ensures c.in_ok-e.was c.mend_expanded.ensures
