use Rattle.implementation.proofs.Implementing.{spec_there}
use Rattle.grammar.proofs.Terminals.{lbrace_is}
use Rattle.implementation.proofs.spec.Goals as goal

pub returns : goal.returns
returns c = spec_there c.length-len.ensures c.expect_kind-b.ensures (lbrace_is c.expect-c.ensures) c.definitions-f.ensures c.close-g.ensures
