use mathlib.Core.Path.{◌∙◌}
use native.Mathlib.Omega.{arith}
use borrow.Author.Rules.{rules}
use lib.ListN.{length}
use Prim.Native.Nat.{◌-◌}
use borrow.Author.Tests.{not-true, not-false}
use Rattle.scopes.specs.Items.{integer_coded}
use Rattle.scopes.proofs.Ranging.{SeekingOut, out_start, out_stop, out-hit, out-on, out_end, turn_on}
use Rattle.scopes.proofs.bounds.list_fault.Given as goal

abbrev pub invariant-loop-at : goal.invariant-loop-at
invariant-loop-at l = SeekingOut l.text (integer_coded l.code) l.from l.at

abbrev pub decreases-loop-at : goal.decreases-loop-at
decreases-loop-at l = length l.text - l.at
