use Rattle.comparing.proofs.Columned.{name_found}
use Rattle.comparing.proofs.names.name_of.Goals as goal

pub returns : goal.returns
returns c = name_found _ _ _ _ _ _ _ _ _ _ _ _ _ c.cell_of-p.ensures c.cell_of-n.ensures c.part.ensures.bytes c.name_number.ensures
