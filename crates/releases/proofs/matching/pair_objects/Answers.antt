use Rattle.releases.proofs.Telling.{pair_at_rows, few_rows, low_row}
use Rattle.releases.proofs.matching.pair_objects.Goals as goal

pub pair_of-requires : goal.pair_of-requires
pair_of-requires c = ((few_rows _ _ _ c.many_rows.ensures, few_rows _ _ _ c.many_rows-2.ensures), (low_row _ _ _ c.first_row.ensures, low_row _ _ _ c.first_row-2.ensures))

pub returns : goal.returns
returns c = pair_at_rows _ _ _ _ _ _ _ _ _ _ _ _ _ _ _ _ _ _ _ _ c.first_row.ensures c.many_rows.ensures c.first_row-2.ensures c.many_rows-2.ensures c.one_more.ensures c.one_more-2.ensures c.pair_of.ensures
