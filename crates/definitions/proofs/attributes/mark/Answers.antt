use Rattle.definitions.proofs.Leaves.{mark_none, mark_there}
use Rattle.definitions.proofs.attributes.mark.Goals as goal

pub returns-then-a-ne-LSQUARE : goal.returns-then-a-ne-LSQUARE
returns-then-a-ne-LSQUARE c = mark_none c.if-a-ne-LSQUARE.true

pub returns : goal.returns
returns c = mark_there c.if-a-ne-LSQUARE.false c.advance-b.ensures c.expect-c.ensures
