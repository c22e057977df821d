use Rattle.definitions.proofs.Leaves.{range_none, range_there}
use Rattle.definitions.proofs.attributes.range.Goals as goal

pub returns-then-a-ne-LSQUARE : goal.returns-then-a-ne-LSQUARE
returns-then-a-ne-LSQUARE c = range_none c.if-a-ne-LSQUARE.true

pub returns : goal.returns
returns c = range_there c.if-a-ne-LSQUARE.false c.advance-b.ensures c.expect-c.ensures c.span-d.ensures c.expect-e.ensures c.through-len.ensures
