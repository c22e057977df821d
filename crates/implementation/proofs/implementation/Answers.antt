use Rattle.implementation.proofs.Implementing.{implementation_there}
use Rattle.grammar.proofs.Terminals.{implementation_is, lbrace_is, rbrace_is, semicolon_is}
use Rattle.implementation.proofs.implementation.Goals as goal

pub returns : goal.returns
returns c = implementation_there (implementation_is c.expect-b.ensures) c.expect_name-c.ensures (lbrace_is c.expect-f.ensures) c.specs-x.ensures (rbrace_is c.expect-g.ensures) c.description-h.ensures (semicolon_is c.expect-i.ensures) c.through-len.ensures
