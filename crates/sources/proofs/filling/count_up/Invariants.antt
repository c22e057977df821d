use Rattle.sources.specs.Expanding.{up_from}
use lib.Seq.{sets}
use lib.ListN.{length}
use mathlib.Core.Path.{◌≡◌}
use Prim.Native.Nat.{◌+◌, ◌-◌}
use Rattle.sources.proofs.filling.count_up.Given as goal

abbrev pub invariant-loop-i : goal.invariant-loop-i
invariant-loop-i l = (length l.cells ≡ length l.initial.cells) × (sets l.cells (l.at + l.i) (up_from (l.first + l.i) (l.n - l.i)) ≡ sets l.initial.cells l.at (up_from l.first l.n))
