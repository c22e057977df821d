use native.Mathlib.Omega.{arith}
use Rattle.judging.proofs.wanting.listed.Goals as goal

pub overflow_add-numbers : goal.overflow_add-numbers
overflow_add-numbers c = omega (arith, c.loop-i.invariant, c.listed_of.ensures)

pub loop-i-preserved : goal.loop-i-preserved
loop-i-preserved c = omega (arith, c.least_of-numbers.ensures)
