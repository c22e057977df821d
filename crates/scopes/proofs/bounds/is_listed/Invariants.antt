use native.Mathlib.Omega.{arith}
use borrow.Author.Rules.{rules}
use lib.ListN.{length}
use Prim.Native.Nat.{◌-◌}
use Rattle.scopes.specs.Items.{num}
use Rattle.scopes.proofs.Ranging.{Seeking, listed_start, listed_stop, listed-hit, listed-on, listed_end, turn_on}
use Rattle.scopes.proofs.bounds.is_listed.Given as goal

abbrev pub invariant-loop-at : goal.invariant-loop-at
invariant-loop-at l = Seeking l.text (num l.n) l.from l.at

abbrev pub decreases-loop-at : goal.decreases-loop-at
decreases-loop-at l = length l.text - l.at
