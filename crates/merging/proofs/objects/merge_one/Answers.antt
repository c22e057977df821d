use Rattle.merging.proofs.Turns.{merge_none, merge_some}
use native.Mathlib.Omega.{arith}
use mathlib.Core.Path.{sym, ◌∙◌}
use Rattle.merging.proofs.objects.merge_one.Goals as goal

pub returns-then-get-i : goal.returns-then-get-i
returns-then-get-i c = (omega arith, merge_none _ _ _ _ _ _ _ _ _ (λ e. c.if-get-i.true (c.get.ensures ∙ e)))

pub overflow_add-result : goal.overflow_add-result
overflow_add-result c = omega (arith, c.requires)

pub returns : goal.returns
returns c = (omega arith, merge_some _ _ _ _ _ _ _ _ _ _ _ _ _ _ _ _ _ _ _ _ (sym c.get.ensures ∙ c.if-get-i.false) c.gather-g.ensures c.cell_of-kind.ensures c.cell_of-word.ensures c.cell_of-word_len.ensures c.cell_of-name.ensures c.cell_of-name_len.ensures c.cell_of-block.ensures c.cell_of-block_len.ensures c.put_row.ensures)
