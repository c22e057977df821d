use Rattle.dropping.proofs.Droppings.{prepared_by}
use Rattle.dropping.proofs.drop_ranged.Goals as goal

pub drop_objects-requires : goal.drop_objects-requires
drop_objects-requires c = prepared_by _ _ _ _ _ _ _ _ _ c.requires.0 c.requires.1 c.note_ranges.ensures
