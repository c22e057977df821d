-- `amounts::noting::put_rest` meets its contract: the numbers that are left decide the whole.
-- Assumes nothing.
use Prim.Native.Nat.{◌-◌}
use lib.ListN.{length}
use Rattle.amounts.proofs.Listings.{Put}
use Rattle.amounts.proofs.noting.put_rest.Given as goal

abbrev pub invariant-loop-at : goal.invariant-loop-at
invariant-loop-at l = Put l.text l.sign l.from l.count l.initial.l l.at l.i l.l

abbrev pub decreases-loop-at : goal.decreases-loop-at
decreases-loop-at l = length l.text - l.at
