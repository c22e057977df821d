use Rattle.walk.proofs.Filing.{version_there}
use Rattle.grammar.proofs.Terminals.{oil_version_is, equals_is, string_is}
use borrow.Author.Rules.{rules}
use Rattle.walk.proofs.version.Goals as goal

pub returns : goal.returns
returns c = version_there (oil_version_is c.expect-b.ensures) (equals_is c.expect-c.ensures) (string_is c.expect-d.ensures) c.finish-f.ensures c.length-len.ensures
