use Rattle.causes.proofs.Rows.{named_other, named_same}
use Rattle.causes.proofs.is_named.Goals as goal

pub returns-then-cell_of-key : goal.returns-then-cell_of-key
returns-then-cell_of-key c = named_other _ _ _ _ _ _ _ _ _ _ c.cell_of.ensures c.if-cell_of-key.true

pub returns : goal.returns
returns c = named_same _ _ _ _ _ _ _ _ _ _ _ _ _ _ c.cell_of.ensures c.if-cell_of-key.false c.place_after-second.ensures c.cell_of-place.ensures c.cell_of-size.ensures c.same_part.ensures
