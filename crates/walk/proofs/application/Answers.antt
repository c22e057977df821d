use Rattle.walk.proofs.Filing.{application_there}
use Rattle.grammar.proofs.Terminals.{cpu_is, lbrace_is}
use borrow.Author.Rules.{rules}
use Rattle.walk.proofs.application.Goals as goal

pub returns : goal.returns
returns c = application_there (cpu_is c.expect-b.ensures) c.expect_name-c.ensures (lbrace_is c.expect-d.ensures) c.parts-x.ensures c.close-f.ensures c.length-len.ensures
