use native.Mathlib.Omega.{arith}
use Rattle.mending.proofs.Endings.{end_after}
use Rattle.mending.proofs.Sayings.{puts_no_line, puts_its_line}
use Rattle.mending.proofs.telling.put_line_at.Goals as goal

pub returns-then-number-eq0 : goal.returns-then-number-eq0
returns-then-number-eq0 c = puts_no_line _ _ _ _ _ c.mark_at-number.ensures c.if-number-eq0.true c.put_bytes.ensures

pub overflow_sub-end : goal.overflow_sub-end
overflow_sub-end c = omega (arith, end_after c.args.text.now c.args.p c.requires, c.statement_end-end.ensures)

pub returns : goal.returns
returns c = puts_its_line _ _ _ _ _ c.mark_at-number.ensures c.if-number-eq0.false _ _ c.statement_end-end.ensures c.get-origin.ensures c.put_line.ensures
