use Rattle.writing.proofs.Heads.{wrote_word}
use Rattle.writing.proofs.values.put_name.Goals as goal

pub returns : goal.returns
returns c = wrote_word _ 13 _ _ 2 _ _ c.cell_of-place.ensures c.cell_of-length.ensures c.put_part.ensures
