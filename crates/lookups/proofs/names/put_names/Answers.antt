use native.Mathlib.Omega.{arith}
use Rattle.lookups.proofs.Naming.{named_by}
use Rattle.lookups.proofs.names.put_names.Goals as goal

pub put_index-requires : goal.put_index-requires
put_index-requires c = omega (arith, c.requires.few.enumerators, c.requires.room, c.put_cells.auto)

pub put_index-requires-2 : goal.put_index-requires-2
put_index-requires-2 c = omega (arith, c.requires.few.objects, c.requires.room, c.put_cells.auto, c.put_index.auto)

pub put_ranks-requires : goal.put_ranks-requires
put_ranks-requires c = omega (arith, c.requires.few.definitions, c.requires.room, c.put_cells.auto, c.put_index.auto, c.put_index-2.auto, c.put_cells-2.auto)

pub put_links-requires : goal.put_links-requires
put_links-requires c = omega (arith, c.requires.statements_fit, c.requires.room, c.note_ranks.auto, c.put_cells.auto, c.put_index.auto, c.put_index-2.auto, c.put_cells-2.auto, c.put_ranks.auto, c.put_cells-3.auto)

pub shape_of-v : goal.shape_of-v
shape_of-v c = omega (arith, c.index.auto)

pub shape_of-h : goal.shape_of-h
shape_of-h c = omega (arith, c.note_ranks.auto)

pub shape_of-spare : goal.shape_of-spare
shape_of-spare c = omega (arith, c.index.auto, c.put_index.auto, c.put_index-2.auto)

pub shape_of-names : goal.shape_of-names
shape_of-names c = omega (arith, c.put_cells.auto, c.put_index.auto, c.put_index-2.auto, c.put_cells-2.auto, c.put_ranks.auto, c.put_cells-3.auto, c.put_links.auto)

pub returns : goal.returns
returns c = named_by _ _ _ _ _ _ _ _ _ _ _ _ _ _ _ _ _ _ _ _ _ _ _ c.requires (omega arith) (omega (arith, c.index.auto)) (omega (arith, c.note_ranks.auto)) (omega (arith, c.requires.spare_room)) (omega (arith, c.requires.spare_room, c.index.auto)) (omega (arith, c.requires.spare_room, c.index.auto, c.put_index.auto)) c.index.ensures c.put_cells.ensures c.put_index.ensures c.put_index-2.ensures c.note_ranks.ensures c.put_cells-2.ensures c.put_ranks.ensures c.put_cells-3.ensures c.put_links.ensures
