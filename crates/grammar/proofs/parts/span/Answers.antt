use borrow.Author.Rules.{rules}
use Rattle.grammar.proofs.Rules.{span_up, span_many, span_pass}
use Rattle.grammar.proofs.parts.span.Goals as goal

pub returns-in-53 : goal.returns-in-53
returns-in-53 c = span_up c.in-53.is c.advance-b.ensures c.expect.ensures

pub returns-in-52 : goal.returns-in-52
returns-in-52 c = span_many c.in-52.is c.advance-b-in-52.ensures c.expect-c.ensures c.numbers.ensures

pub returns-in_default : goal.returns-in_default
returns-in_default c = span_pass (search rules) (search rules)
