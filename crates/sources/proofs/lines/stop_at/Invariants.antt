use Prim.Native.Nat.{◌-◌}
use mathlib.Core.Path.{◌≡◌}
use lib.ListN.{length}
use Rattle.sources.specs.Lines.{stop_at}
use Rattle.sources.proofs.lines.stop_at.Given as goal

abbrev pub invariant-loop-next : goal.invariant-loop-next
invariant-loop-next l = stop_at l.text l.cursor.at ≡ stop_at l.text l.from

abbrev pub decreases-loop-next : goal.decreases-loop-next
decreases-loop-next l = length l.text - l.cursor.at
