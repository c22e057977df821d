use Rattle.walk.proofs.Filing.{file_there}
use borrow.Author.Rules.{rules}
use Rattle.walk.proofs.walk.Goals as goal

pub returns : goal.returns
returns c = file_there c.look_at-a.ensures c.version-v.ensures c.implementation-i.ensures c.application-y.ensures c.unwrap_or-again.ensures
