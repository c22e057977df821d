use mathlib.Core.Path.{sym, ◌∙◌}
use Rattle.merging.proofs.Turns.{gather_none, gather_some}
use native.Mathlib.Omega.{arith}
use Rattle.merging.proofs.objects.gather_one.Goals as goal

pub returns-then-get-i : goal.returns-then-get-i
returns-then-get-i c = (omega arith, gather_none _ _ _ _ _ _ _ _ (λ e. c.if-get-i.true (c.get.ensures ∙ e)))

pub returns : goal.returns
returns c = (omega arith, gather_some _ _ _ _ _ _ _ _ _ _ _ _ (sym c.get.ensures ∙ c.if-get-i.false) c.cell_of-from.ensures c.cell_of-end.ensures c.move_rows-row.ensures)
