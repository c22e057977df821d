-- `explaining::lines::shown_end` meets its contract: the test tells whether a CR stands before the end.
-- Assumes nothing.
use Rattle.explaining.proofs.Ends.{cr_after, shown_cr, shown_same}
use mathlib.Core.Path.{◌∙◌, sym}
use Rattle.explaining.proofs.lines.shown_end.Goals as goal

pub overflow_sub-result : goal.overflow_sub-result
overflow_sub-result c = (cr_after _ _ (sym c.cr_before.ensures ∙ c.if-cr_before.true)).0

pub returns-then-cr_before : goal.returns-then-cr_before
returns-then-cr_before c = shown_cr _ _ (sym c.cr_before.ensures ∙ c.if-cr_before.true)

pub returns : goal.returns
returns c = shown_same _ _ (sym c.cr_before.ensures ∙ c.if-cr_before.false)
