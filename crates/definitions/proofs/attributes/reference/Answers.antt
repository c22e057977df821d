use Rattle.definitions.proofs.Leaves.{reference_walks}
use Rattle.definitions.proofs.attributes.reference.Goals as goal

pub returns : goal.returns
returns c = reference_walks _ c.args.t c.expect_name-b.ensures c.mark-c.ensures c.finish-f.ensures c.length-len.ensures c.head-h.ensures c.put_row.ensures c.next-m.ensures
