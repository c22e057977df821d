use Rattle.grammar.proofs.Terminals.{rbrace_is}
use Rattle.grammar.proofs.Meeting.{◌⊳◌}
use Rattle.grammar.proofs.parts.close.Goals as goal

pub returns : goal.returns
returns c = rbrace_is c.expect-b.ensures ⊳ c.finish.ensures
