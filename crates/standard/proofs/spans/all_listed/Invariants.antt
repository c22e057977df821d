use Rattle.standard.proofs.Spanning.{Holding}
use Prim.Native.Nat.{◌-◌}
use lib.ListN.{length}
use Rattle.standard.proofs.spans.all_listed.Given as goal

abbrev pub invariant-loop-at : goal.invariant-loop-at
invariant-loop-at l = Holding l.text l.from l.at

abbrev pub decreases-loop-at : goal.decreases-loop-at
decreases-loop-at l = length l.text - l.at
