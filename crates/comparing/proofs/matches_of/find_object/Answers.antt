-- `comparing::matches_of::find_object` meets its contract. Assumes nothing.
use Rattle.comparing.proofs.Objected.{object_found}
use Rattle.comparing.proofs.matches_of.find_object.Goals as goal

pub returns : goal.returns
returns c = object_found _ _ _ _ _ _ _ _ _ _ _ c.cell_of-kind.ensures c.cell_of-p.ensures c.cell_of-n.ensures c.part.ensures.bytes c.find_word.ensures
