-- `resolving::scanning::next_row` meets its contract: the rows before i give no value.
-- Assumes nothing.
use lib.ListN.{get_or}
use Prim.Native.Nat.{◌≤◌, ◌<◌, ◌+◌, ◌*◌, ◌-◌}
use mathlib.Core.Path.{◌≡◌}
use Rattle.resolving.specs.Noted.{Passes}
use Rattle.resolving.proofs.scanning.next_row.Given as goal

abbrev pub invariant-loop-i : goal.invariant-loop-i
invariant-loop-i l = (l.j ≤ l.i) × ((l.i ≤ l.limit) × (Passes l.t.tables.text.now l.t.tables.definitions.now l.t.tables.statements.now l.key l.from l.end l.j l.i × (l.i < l.limit → get_or l.t.tables.definitions.now (l.i * 19 + 0) 0 ≡ l.key)))

abbrev pub decreases-loop-i : goal.decreases-loop-i
decreases-loop-i l = l.limit - l.i
