use native.Mathlib.Omega.{arith}
use Rattle.judging.proofs.wanting.in_lists.Goals as goal

pub overflow_add-count : goal.overflow_add-count
overflow_add-count c = omega (arith, c.loop-i.invariant, c.in_list.ensures)

pub loop-i-preserved : goal.loop-i-preserved
loop-i-preserved c = omega (arith, c.least_of-count.ensures)
