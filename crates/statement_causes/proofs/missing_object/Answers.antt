use Rattle.statement_causes.proofs.Missings.{object_misses}
use Rattle.statement_causes.proofs.missing_object.Goals as goal

pub returns : goal.returns
returns c = object_misses _ _ _ _ _ _ c.args.places.now c.args.i c.cell_of-kind.result c.get-key.result c.cell_of-from.result c.cell_of-end.result c.missing.result c.cell_of-kind.ensures c.get-key.ensures c.cell_of-from.ensures c.cell_of-end.ensures c.missing.ensures
