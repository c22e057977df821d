use Rattle.definitions.proofs.Leaves.{list_head_is}
use Rattle.definitions.proofs.attributes.with_list.Goals as goal

pub returns : goal.returns
returns c = list_head_is c.args.t c.length-length.ensures
