use Rattle.standard.proofs.Sooner.{both_found}
use Rattle.standard.proofs.findings.sooner.Goals as goal

pub returns-in-Some-Some : goal.returns-in-Some-Some
returns-in-Some-Some c = both_found _ _ _ c.in-Some-Some.is-0 c.in-Some-Some.is-1 c.min.ensures
