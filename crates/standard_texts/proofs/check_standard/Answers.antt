use Rattle.lent_texts.proofs.Told.{passed_on}
use Rattle.standard_texts.proofs.Told.{stopped_checks, text_checks}
use Rattle.standard_texts.proofs.check_standard.Goals as goal

pub returns-in_err-e : goal.returns-in_err-e
returns-in_err-e c = stopped_checks c.expand.ensures c.in_err-e.was (passed_on c.from_residual.ensures.1)

pub returns : goal.returns
returns c = text_checks c.expand.ensures c.in_ok-e.was c.check_expanded.ensures
