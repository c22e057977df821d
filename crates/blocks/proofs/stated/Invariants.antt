-- `blocks::stated` meets its contract.
-- Assumes nothing.
use Rattle.blocks.proofs.Ranges.{Looking}
use Prim.Native.Nat.{◌-◌}
use Rattle.blocks.proofs.stated.Given as goal

abbrev pub invariant-loop-k : goal.invariant-loop-k
invariant-loop-k l = Looking l.text l.st l.from l.end l.at l.len l.k

abbrev pub decreases-loop-k : goal.decreases-loop-k
decreases-loop-k l = l.end - l.k
