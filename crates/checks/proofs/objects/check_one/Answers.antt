use Rattle.checks.proofs.Applications.{met_old, met_new}
use native.Mathlib.Omega.{arith}
use mathlib.Core.Path.{sym, ◌∙◌}
use Rattle.checks.proofs.objects.check_one.Goals as goal

pub returns-then-get-j : goal.returns-then-get-j
returns-then-get-j c = (omega arith, λ s n f N h M. met_old N h M (λ e. c.if-get-j.true (c.get.ensures ∙ e)))

pub returns : goal.returns
returns c = (omega arith, λ s n f N h M. met_new N h M (sym c.get.ensures ∙ c.if-get-j.false) c.cell_of-number.ensures c.cell_of-place.ensures c.fault_if-a.ensures c.too_many-b.ensures c.sooner.ensures c.sooner-f.ensures c.one_more-more.ensures)
