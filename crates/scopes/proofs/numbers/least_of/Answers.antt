use Rattle.scopes.proofs.Deciding.{least_signed, least_plain}
use Rattle.scopes.proofs.numbers.least_of.Goals as goal

pub returns-then-negatives : goal.returns-then-negatives
returns-then-negatives c = least_signed _ _ _ c.if-negatives.true c.power.ensures

pub returns : goal.returns
returns c = least_plain _ _ c.if-negatives.false
