use Rattle.lookups.specs.Ranks.{Skips}
use lib.ListN.{length}
use Prim.Native.Nat.{◌≤◌, ◌-◌, ◌*◌}
use Rattle.lookups.proofs.skip.Given as goal

abbrev pub invariant-loop-k : goal.invariant-loop-k
invariant-loop-k l = ((l.limit ≤ l.end) × (l.limit ≤ length l.h) × (l.limit * 7 ≤ length l.st)) × Skips l.st l.h l.from l.end l.rank l.k

abbrev pub decreases-loop-k : goal.decreases-loop-k
decreases-loop-k l = l.end - l.k
