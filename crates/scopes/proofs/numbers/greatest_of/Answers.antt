use native.Mathlib.Omega.{arith}
use Rattle.scopes.proofs.Deciding.{greatest_signed, greatest_plain, half_fits}
use Rattle.scopes.proofs.numbers.greatest_of.Goals as goal

pub overflow_sub-result : goal.overflow_sub-result
overflow_sub-result c = omega (arith, half_fits _ _ c.requires.0 c.requires.1 c.power-half.ensures)

pub returns-then-negatives : goal.returns-then-negatives
returns-then-negatives c = greatest_signed _ _ _ c.if-negatives.true c.power-half.ensures

pub overflow_sub-result-2 : goal.overflow_sub-result-2
overflow_sub-result-2 c = omega (arith, half_fits _ _ c.requires.0 c.requires.1 c.power-half.ensures)

pub overflow_add-result : goal.overflow_add-result
overflow_add-result c = omega (arith, half_fits _ _ c.requires.0 c.requires.1 c.power-half.ensures)

pub returns : goal.returns
returns c = greatest_plain _ _ _ c.requires.0 c.if-negatives.false c.power-half.ensures
