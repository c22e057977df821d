-- `explaining::characters::count` meets its contract: what is counted and what is left to count are the whole.
-- Assumes nothing.
use Rattle.explaining.specs.Characters.{starts}
use lib.ListN.{drop}
use mathlib.Core.Path.{◌≡◌}
use Prim.Native.Nat.{◌≤◌, ◌+◌}
use Rattle.explaining.proofs.characters.count.Given as goal

abbrev pub invariant-loop-b : goal.invariant-loop-b
invariant-loop-b l = (l.n ≤ l.b-index) × (l.n + starts (drop l.b-index l.bytes) ≡ starts l.bytes)
