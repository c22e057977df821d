-- `token::skipping::skip_gaps` meets its contract: skipping from i on ends where skipping from the start does.
-- Assumes nothing.
use mathlib.Core.Path.{◌≡◌}
use Prim.Native.Nat.{◌-◌}
use lib.ListN.{length}
use Rattle.token.specs.Gaps.{skip}
use Rattle.token.proofs.skipping.skip_gaps.Given as goal

abbrev pub invariant-loop-next : goal.invariant-loop-next
invariant-loop-next l = skip l.text l.i ≡ skip l.text l.from

abbrev pub decreases-loop-next : goal.decreases-loop-next
decreases-loop-next l = length l.text - l.i
