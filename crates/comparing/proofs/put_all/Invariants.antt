-- `comparing::put_all`: the first k records are stored.
use Prim.Native.Nat.{◌≤◌}
use mathlib.Core.Path.{◌≡◌}
use lib.ListN.{take}
use Rattle.comparing.specs.Lists.{overwrite}
use Rattle.comparing.proofs.put_all.Given as goal

abbrev pub invariant-loop-k : goal.invariant-loop-k
invariant-loop-k l = (l.k ≤ l.n) × (l.list ≡ overwrite (take l.k l.found.records) l.initial.list)
