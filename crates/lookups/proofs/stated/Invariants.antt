use Rattle.lookups.proofs.Blocks.{Onward}
use Prim.Native.Nat.{◌-◌}
use Rattle.lookups.proofs.stated.Given as goal

abbrev pub invariant-loop-k : goal.invariant-loop-k
invariant-loop-k l = Onward l.text l.st l.h l.from l.end l.at l.len l.rank l.k

abbrev pub decreases-loop-k : goal.decreases-loop-k
decreases-loop-k l = l.end - l.k
