use Rattle.mending.proofs.Piecing.{Seeking}
use lib.ListN.{length}
use Prim.Native.Nat.{◌-◌}
use Rattle.mending.proofs.walking.place_back.Given as goal

abbrev pub invariant-loop-p : goal.invariant-loop-p
invariant-loop-p l = Seeking l.text l.marks l.place l.p l.left

abbrev pub decreases-loop-p : goal.decreases-loop-p
decreases-loop-p l = length l.text - l.p
