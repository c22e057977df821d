use Rattle.grammar.proofs.Rules.{D-pass, D-is}
use Rattle.grammar.proofs.parts.description.Goals as goal

pub returns-then-a-ne-COLON : goal.returns-then-a-ne-COLON
returns-then-a-ne-COLON c = D-pass c.if-a-ne-COLON.true

pub returns : goal.returns
returns c = D-is c.if-a-ne-COLON.false c.advance-b.ensures c.expect.ensures
