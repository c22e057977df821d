use Rattle.scopes.proofs.Deciding.{at_number}
use Rattle.scopes.proofs.numbers.number_at.Goals as goal

pub returns : goal.returns
returns c = at_number _ _ _ c.item_at.ensures
