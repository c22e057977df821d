use Rattle.grammar.proofs.Terminals.{semicolon_is}
use Rattle.grammar.proofs.Meeting.{◌⊳◌}
use Rattle.grammar.proofs.parts.finish.Goals as goal

pub returns : goal.returns
returns c = c.description-b.ensures ⊳ semicolon_is c.expect.ensures
