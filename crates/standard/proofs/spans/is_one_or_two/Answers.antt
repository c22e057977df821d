use Rattle.standard.proofs.Spanning.{is_one, or_two}
use Rattle.standard.proofs.spans.is_one_or_two.Goals as goal

pub returns-then-equal : goal.returns-then-equal
returns-then-equal c = is_one _ _ c.equal.ensures c.if-equal.true

pub returns : goal.returns
returns c = or_two _ _ _ c.equal.ensures c.if-equal.false c.equal-2.ensures
