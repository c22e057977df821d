use native.Mathlib.Omega.{arith}
use Rattle.sorting.specs.Sorted.{Tells}
use mathlib.Core.Path.{subst}
use mathlib.Core.Bool.{false≢true}
use Rattle.resolving.proofs.scanning.is_quiet.Goals as goal

pub returns-then-from-end : goal.returns-then-from-end
returns-then-from-end c = record { empty = λ q. absurd (false≢true q); unowned = λ q. absurd (false≢true q) }

pub returns-then-has : goal.returns-then-has
returns-then-has c = record { empty = λ q. absurd (false≢true q); unowned = λ q. absurd (false≢true q) }

pub returns : goal.returns
returns c = record { empty = λ q. omega arith; unowned = λ q. subst (λ b. Tells c.args.owners.now c.args.key b) c.if-has.false c.has.ensures }
