use Rattle.testing.proofs.TellingHeads.{tells_heading, tells_no_heading}
use Rattle.testing.proofs.heads.kaukslini_heading_cells.Goals as goal

pub returns-in-Ok : goal.returns-in-Ok
returns-in-Ok c = tells_heading c.heading.ensures.heads c.in-Ok.is c.put_cells.ensures

pub returns-in-Err : goal.returns-in-Err
returns-in-Err c = tells_no_heading c.heading.ensures.heads c.in-Err.is c.put_cells-in-Err.ensures
