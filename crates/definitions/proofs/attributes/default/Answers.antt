use Rattle.definitions.proofs.Leaves.{default_none, default_there}
use Rattle.definitions.proofs.attributes.default.Goals as goal

pub returns-then-a-ne-EQUALS : goal.returns-then-a-ne-EQUALS
returns-then-a-ne-EQUALS c = default_none _ c.if-a-ne-EQUALS.true

pub returns : goal.returns
returns c = default_there _ c.if-a-ne-EQUALS.false c.advance-b.ensures c.own-c.ensures c.length-len.ensures
