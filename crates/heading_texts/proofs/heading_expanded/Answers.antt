use Rattle.heading_texts.proofs.Told.{names_expanded, refuses_expanded}
use Rattle.heading_texts.proofs.heading_expanded.Goals as goal

pub returns-in-Ok : goal.returns-in-Ok
returns-in-Ok c = names_expanded c.heading.ensures.heads c.in-Ok.is c.place_in.ensures c.place_in-in-Ok.ensures

pub returns-in-Err : goal.returns-in-Err
returns-in-Err c = refuses_expanded c.heading.ensures.heads c.in-Err.is c.refused.ensures
