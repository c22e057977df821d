use Rattle.definitions.proofs.Leaves.{auto_none, auto_there}
use Rattle.definitions.proofs.attributes.auto.Goals as goal

pub returns-then-a-ne-WITH_AUTO : goal.returns-then-a-ne-WITH_AUTO
returns-then-a-ne-WITH_AUTO c = auto_none c.if-a-ne-WITH_AUTO.true

pub returns : goal.returns
returns c = auto_there c.if-a-ne-WITH_AUTO.false c.advance-b.ensures
