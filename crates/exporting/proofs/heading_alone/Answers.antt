use Rattle.exporting.proofs.Headings.{named_with, refused_with}
use Rattle.exporting.proofs.heading_alone.Goals as goal

pub returns-in-Ok : goal.returns-in-Ok
returns-in-Ok c = named_with c.heading.ensures.heads c.in-Ok.is c.least_of.ensures c.least_of-in-Ok.ensures

pub returns-in-Err : goal.returns-in-Err
returns-in-Err c = refused_with c.heading.ensures.heads c.in-Err.is c.refusal-r.ensures
