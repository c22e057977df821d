use Rattle.placing.proofs.Rowwise.{places_tables}
use Rattle.placing.proofs.place_tables.Goals as goal

pub returns : goal.returns
returns c = places_tables _ _ _ _ _ _ _ _ _ c.place_definitions.ensures c.place_column.ensures c.place_objects.ensures c.place_column-2.ensures
