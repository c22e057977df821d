use native.Mathlib.Omega.{arith}
use Rattle.checks.proofs.Names.{clear_start, name_clash, name_clear, clear_end}
use Rattle.checks.proofs.objects.name_fault.Goals as goal

pub loop-j-init : goal.loop-j-init
loop-j-init c = λ s f N. clear_start f

pub returns-then-kind-before : goal.returns-then-kind-before
returns-then-kind-before c = λ s f N. name_clash N (omega arith) (c.loop-j.invariant s f N) _ _ _ _ c.get-i.ensures c.cell_of-kind.ensures c.cell_of-before.ensures c.if-kind-before.true c.cell_of-place.ensures

pub loop-j-preserved : goal.loop-j-preserved
loop-j-preserved c = λ s f N. name_clear N (omega arith) (c.loop-j.invariant s f N) _ _ _ c.get-i.ensures c.cell_of-kind.ensures c.cell_of-before.ensures c.if-kind-before.false

pub returns : goal.returns
returns c = λ s f N. clear_end (omega arith) (omega arith) (c.loop-j.invariant s f N)
