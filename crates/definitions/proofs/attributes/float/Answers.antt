use Rattle.definitions.proofs.Leaves.{float_walks}
use Rattle.grammar.specs.Readers.{sort_at}
use Rattle.definitions.proofs.attributes.float.Goals as goal

pub returns : goal.returns
unfolding sort_at
returns c = float_walks _ c.args.t c.auto-b.ensures c.float_range-c.ensures c.head-h.ensures c.named.ensures
