use Rattle.indexes.proofs.Throughs.{through_made}
use Rattle.merging.proofs.indexed_firsts.Goals as goal

pub returns : goal.returns
returns c = through_made _ _ _ _ _ _ _ _ _ c.requires c.index.ensures c.each_first.ensures
