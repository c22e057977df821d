use Rattle.judging.proofs.Readying.{ready_by, judges_marked}
use borrow.Author.Rules.{rules}
use Rattle.judging.proofs.judge_ranged.Goals as goal

pub judge_objects-requires : goal.judge_objects-requires
judge_objects-requires c = ready_by _ _ _ _ _ _ _ _ _ _ _ c.requires.0 c.requires.1 c.note_ranges.ensures c.put_cells.ensures

pub shape_of-spare : goal.shape_of-spare
shape_of-spare c = search rules

pub returns : goal.returns
returns c = record { judges = judges_marked _ _ _ _ _ _ _ _ _ _ _ c.requires.0 c.requires.1 c.note_ranges.ensures c.put_cells.ensures _ _ c.judge_objects.ensures; lends = record { size = shape_of-spare c } }
