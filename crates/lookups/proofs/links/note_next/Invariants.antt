use Prim.Native.Nat.{◌≤◌}
use Rattle.lookups.proofs.Linking.{LinkedFrom}
use lib.ListN.{length}
use mathlib.Core.Path.{◌≡◌}
use Rattle.lookups.proofs.links.note_next.Given as goal

abbrev pub invariant-loop-i : goal.invariant-loop-i
invariant-loop-i l = (length l.rows ≡ 513) × ((l.i ≤ length l.h) × LinkedFrom l.st l.h l.next l.i l.rows)
