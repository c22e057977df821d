use Rattle.grammar.proofs.Lookaheads.{answer_passes, answer_token, answer_no_token, answer_not_admitted, answer_too_deep}
use Rattle.grammar.proofs.answer_of.Goals as goal

pub returns-then-code-eq-END : goal.returns-then-code-eq-END
returns-then-code-eq-END c = answer_passes _ c.if-code-eq-END.true

pub returns-then-code-lt-END : goal.returns-then-code-lt-END
returns-then-code-lt-END c = answer_token _ c.if-code-eq-END.false c.if-code-lt-END.true

pub returns-then-code-eq-NO_TOKEN : goal.returns-then-code-eq-NO_TOKEN
returns-then-code-eq-NO_TOKEN c = answer_no_token _ c.if-code-lt-END.false c.if-code-eq-NO_TOKEN.true

pub returns-then-code-eq-NOT_ADMITTED : goal.returns-then-code-eq-NOT_ADMITTED
returns-then-code-eq-NOT_ADMITTED c = answer_not_admitted _ c.if-code-lt-END.false c.if-code-eq-NOT_ADMITTED.true

pub returns : goal.returns
returns c = answer_too_deep _ c.if-code-eq-END.false c.if-code-lt-END.false c.if-code-eq-NO_TOKEN.false c.if-code-eq-NOT_ADMITTED.false
