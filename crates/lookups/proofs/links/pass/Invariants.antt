use Prim.Native.Nat.{◌-◌}
use Rattle.lookups.specs.Links.{Passing}
use lib.ListN.{length}
use mathlib.Core.Path.{◌≡◌}
use Rattle.lookups.proofs.links.pass.Given as goal

abbrev pub invariant-loop-p : goal.invariant-loop-p
invariant-loop-p l = (length l.rows ≡ length l.initial.rows) × Passing l.st l.h l.next l.p l.rows

abbrev pub decreases-loop-p : goal.decreases-loop-p
decreases-loop-p l = l.to - l.p
