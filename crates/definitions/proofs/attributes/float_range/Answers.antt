use Rattle.definitions.proofs.Leaves.{float_range_none, float_range_there}
use Rattle.definitions.proofs.attributes.float_range.Goals as goal

pub returns-then-a-ne-LSQUARE : goal.returns-then-a-ne-LSQUARE
returns-then-a-ne-LSQUARE c = float_range_none c.if-a-ne-LSQUARE.true

pub returns : goal.returns
returns c = float_range_there c.if-a-ne-LSQUARE.false c.advance-b.ensures c.expect-c.ensures c.expect-d.ensures c.expect-e.ensures c.expect-f.ensures c.through-len.ensures
