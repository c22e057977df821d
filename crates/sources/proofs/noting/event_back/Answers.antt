use native.Mathlib.Omega.{arith}
use Rattle.sources.proofs.Notings.{back_end, back_open, back_include, back_absent}
use mathlib.Core.Path.{sym, ◌∙◌}
use Rattle.sources.proofs.noting.event_back.Goals as goal

pub returns-then-note-ge-TEXTS : goal.returns-then-note-ge-TEXTS
returns-then-note-ge-TEXTS c = back_end _ _ _ (omega arith)

pub returns-then-cell-eq1 : goal.returns-then-cell-eq1
returns-then-cell-eq1 c = back_open _ _ _ (omega arith) _ _ _ _ (sym c.span_of.ensures ∙ c.in-Some.is) c.cell.ensures c.if-cell-eq1.true

pub returns-else-cell-eq1 : goal.returns-else-cell-eq1
returns-else-cell-eq1 c = back_include _ _ _ (omega arith) _ _ _ _ (sym c.span_of.ensures ∙ c.in-Some.is) c.cell.ensures c.if-cell-eq1.false

pub returns-in-None : goal.returns-in-None
returns-in-None c = back_absent _ _ _ (omega arith) (sym c.span_of.ensures ∙ c.in-None.is)
