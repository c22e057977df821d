use Rattle.copying.specs.Copies.{cells_from}
use lib.Seq.{sets}
use lib.ListN.{length}
use mathlib.Core.Path.{◌≡◌}
use Prim.Native.Nat.{◌+◌, ◌-◌}
use Rattle.copying.proofs.heads.copy_cells.Given as goal

abbrev pub invariant-loop-i : goal.invariant-loop-i
invariant-loop-i l = (length l.to ≡ length l.initial.to) × (sets l.to l.j (cells_from l.from (l.at + l.i) (l.count - l.i)) ≡ sets l.initial.to l.place (cells_from l.from l.at l.count))
