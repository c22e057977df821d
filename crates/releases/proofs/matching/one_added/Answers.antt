use Rattle.releases.proofs.Telling.{added_at, added_new}
use Rattle.releases.proofs.matching.one_added.Goals as goal

pub returns-in-Some : goal.returns-in-Some
returns-in-Some c = added_at _ _ _ _ _ _ _ _ _ c.find_object.ensures c.in-Some.is

pub returns-in-None : goal.returns-in-None
returns-in-None c = added_new _ _ _ _ _ _ _ _ _ _ c.find_object.ensures c.in-None.is c.one_more.ensures c.and_one.ensures
