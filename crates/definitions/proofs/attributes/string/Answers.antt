use Rattle.definitions.proofs.Leaves.{string_walks}
use Rattle.grammar.specs.Readers.{sort_at}
use Rattle.definitions.proofs.attributes.string.Goals as goal

pub returns : goal.returns
unfolding sort_at
returns c = string_walks _ c.args.t c.auto-b.ensures c.head-h.ensures c.named.ensures
