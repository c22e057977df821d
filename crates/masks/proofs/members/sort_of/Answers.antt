use Rattle.masks.proofs.Storing.{sort_at, sort_nothing}
use Rattle.masks.proofs.members.sort_of.Goals as goal

pub returns-in-Some : goal.returns-in-Some
returns-in-Some c = sort_at _ _ _ _ c.in-Some.is c.cell_of.ensures

pub returns-in-None : goal.returns-in-None
returns-in-None c = sort_nothing _ _ c.in-None.is
