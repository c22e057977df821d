use Rattle.lookups.specs.Ranks.{FirstsTo}
use lib.ListN.{length}
use mathlib.Core.Path.{◌≡◌}
use Prim.Native.Nat.{◌≤◌, ◌-◌, ◌*◌}
use Rattle.lookups.proofs.note_firsts.Given as goal

abbrev pub invariant-loop-k : goal.invariant-loop-k
invariant-loop-k l = ((l.limit ≤ l.end) × (l.limit ≤ length l.h) × (l.limit * 7 ≤ length l.st)) × (length l.first ≡ length l.initial.first) × FirstsTo l.st l.h l.from l.end l.k l.first

abbrev pub decreases-loop-k : goal.decreases-loop-k
decreases-loop-k l = l.end - l.k
