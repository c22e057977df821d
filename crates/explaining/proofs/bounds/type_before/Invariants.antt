-- `explaining::bounds::type_before` meets its contract: what is left to read decides the code as the whole text does.
-- Assumes nothing.
use Prim.Native.Nat.{◌-◌}
use Rattle.explaining.proofs.TypeWords.{Left}
use Rattle.explaining.proofs.bounds.type_before.Given as goal

abbrev pub invariant-loop-at : goal.invariant-loop-at
invariant-loop-at l = Left l.text l.place l.code l.at

abbrev pub decreases-loop-at : goal.decreases-loop-at
decreases-loop-at l = l.place - l.at
