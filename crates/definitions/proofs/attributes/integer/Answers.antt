use Rattle.definitions.proofs.Leaves.{integer_walks}
use Rattle.grammar.specs.Readers.{sort_at}
use Rattle.definitions.proofs.attributes.integer.Goals as goal

pub returns : goal.returns
unfolding sort_at
returns c = integer_walks _ c.args.t c.auto-b.ensures c.range-c.ensures c.head-h.ensures c.named.ensures
