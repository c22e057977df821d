use Rattle.masks.proofs.Storing.{amount_at, amount_nothing}
use Rattle.masks.proofs.members.amount_of.Goals as goal

pub returns-in-Some : goal.returns-in-Some
returns-in-Some c = amount_at _ _ _ _ c.in-Some.is c.cell_of.ensures

pub returns-in-None : goal.returns-in-None
returns-in-None c = amount_nothing _ _ c.in-None.is
