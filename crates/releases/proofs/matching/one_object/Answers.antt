use Rattle.releases.proofs.Telling.{object_at, object_not}
use Rattle.releases.proofs.matching.one_object.Goals as goal

pub returns-in-Some : goal.returns-in-Some
returns-in-Some c = object_at _ _ _ _ _ _ _ _ _ _ _ _ _ _ _ _ _ _ c.find_object.ensures c.in-Some.is c.pair_objects.ensures

pub returns-in-None : goal.returns-in-None
returns-in-None c = object_not _ _ _ _ _ _ _ _ _ _ _ _ _ _ _ _ _ _ c.find_object.ensures c.in-None.is c.one_more.ensures c.and_one.ensures
