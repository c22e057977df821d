use Rattle.placing.proofs.Rowwise.{columns_five}
use Rattle.placing.proofs.place_definitions.Goals as goal

pub returns : goal.returns
returns c = columns_five _ _ _ _ _ _ _ _ _ _ _ _ _ _ c.place_column.ensures c.place_column-2.ensures c.place_column-3.ensures c.place_column-4.ensures c.place_column-5.ensures
