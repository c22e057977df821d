use Rattle.placing.proofs.Rowwise.{columns_three}
use Rattle.placing.proofs.place_objects.Goals as goal

pub returns : goal.returns
returns c = columns_three _ _ _ _ _ _ _ _ _ _ c.place_column.ensures c.place_column-2.ensures c.place_column-3.ensures
