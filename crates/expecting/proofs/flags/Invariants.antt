use Rattle.expecting.proofs.Telling.{Told}
use Rattle.expecting.specs.Samples.{asking, AdmitsLast}
use lib.ListN.{length}
use Prim.Native.Nat.{◌≤◌, ◌+◌, ◌-◌}
use mathlib.Core.Path.{◌≡◌}
use Rattle.expecting.proofs.flags.Given as goal

abbrev pub invariant-loop-i : goal.invariant-loop-i
invariant-loop-i l = (1 ≤ l.i) × (l.i ≤ 28) × (length l.flags ≡ 29) × (length l.scratch ≡ length l.initial.scratch) × AdmitsLast (asking l.text l.place 0) (l.place + 1) l.named × Told l.text l.place l.flags l.i
