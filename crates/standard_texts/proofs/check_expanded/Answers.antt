use Rattle.standard_texts.proofs.Told.{refuses_expanded, nothing_expanded, wrong_expanded}
use borrow.Author.Rules.{rules}
use Rattle.standard_texts.proofs.check_expanded.Goals as goal

pub returns-in-Err : goal.returns-in-Err
returns-in-Err c = refuses_expanded c.check_standard.ensures.rules c.in-Err.is c.refused.ensures

pub returns-in-Ok-None : goal.returns-in-Ok-None
returns-in-Ok-None c = nothing_expanded c.check_standard.ensures.rules c.in-Ok-None.is c.in-Ok-None.field-0-is

pub returns-in-Ok-Some : goal.returns-in-Ok-Some
returns-in-Ok-Some c = wrong_expanded c.check_standard.ensures.rules c.in-Ok-Some.is c.in-Ok-Some.field-0-is c.place_in.ensures
