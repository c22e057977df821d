use Rattle.merging.specs.Moves.{moved_rows}
use lib.Seq.{sets}
use Prim.Native.Nat.{◌+◌, ◌-◌, ◌*◌, ◌≤◌}
use mathlib.Core.Path.{◌≡◌}
use Rattle.merging.proofs.objects.move_rows.Given as goal

abbrev pub invariant-loop-k : goal.invariant-loop-k
invariant-loop-k l = (l.row ≡ l.to + (l.k - l.from)) × (l.k - l.from ≤ l.end - l.from) × (sets l.out (l.row * 7) (moved_rows l.st l.from l.to (l.end - l.k) l.k) ≡ sets l.initial.out (l.to * 7) (moved_rows l.st l.from l.to (l.end - l.from) l.from))
