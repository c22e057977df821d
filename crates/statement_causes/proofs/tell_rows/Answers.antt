use Rattle.statement_causes.proofs.Telling.{tells_rows}
use Rattle.statement_causes.proofs.tell_rows.Goals as goal

pub returns : goal.returns
returns c = tells_rows _ _ _ _ _ _ c.args.places c.args.place c.seek_all-spot.result c.attribute_of-attribute.result c.first_of-first.result c.missing_at-missing.result c.seek_all-spot.ensures c.attribute_of-attribute.ensures c.first_of-first.ensures c.missing_at-missing.ensures
