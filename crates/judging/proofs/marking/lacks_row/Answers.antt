use mathlib.Core.Path.{sym, ◌∙◌}
use Rattle.judging.proofs.Lacking.{row_unmarked, row_marked}
use Rattle.judging.proofs.marking.lacks_row.Goals as goal

pub returns-then-get-eq0 : goal.returns-then-get-eq0
returns-then-get-eq0 c = λ n key f u ds ss o h k. row_unmarked o c.args.i h (sym c.get.ensures ∙ c.if-get-eq0.true)

pub returns : goal.returns
returns c = λ n key f u ds ss o h k. row_marked o c.args.i c.is_stated.result h k (λ q. c.if-get-eq0.false (c.get.ensures ∙ q)) c.is_stated.ensures
