use Rattle.masks.proofs.Storing.{stored_given}
use Rattle.masks.proofs.members.put_given.Goals as goal

pub returns : goal.returns
returns c = stored_given _ _ _ _ _ _ c.requires c.sort_of-a.ensures c.amount_of-b.ensures
