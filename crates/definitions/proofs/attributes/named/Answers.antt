use Rattle.definitions.proofs.Leaves.{named_walks}
use Rattle.definitions.proofs.attributes.named.Goals as goal

pub returns : goal.returns
returns c = named_walks _ _ _ c.expect_name-b.ensures c.mark-c.ensures c.default-x.ensures c.finish-f.ensures c.length-len.ensures c.put_row.ensures c.next-m.ensures
