use Rattle.statement_causes.proofs.Seeking.{object_by}
use Rattle.statement_causes.proofs.seek_object.Goals as goal

pub returns : goal.returns
returns c = object_by _ _ _ _ _ _ c.args.places.now c.args.i c.args.place c.cell_of-kind.result c.get-key.result c.cell_of-from.result c.cell_of-end.result c.seek.result c.cell_of-kind.ensures c.get-key.ensures c.cell_of-from.ensures c.cell_of-end.ensures c.seek.ensures
