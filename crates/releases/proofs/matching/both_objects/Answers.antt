use Rattle.releases.proofs.Telling.{both_told}
use Rattle.releases.proofs.matching.both_objects.Goals as goal

pub returns : goal.returns
returns c = both_told _ _ _ _ _ _ _ _ _ _ _ _ _ _ _ _ _ _ _ c.first_objects-all.ensures c.second_objects.ensures
