use Rattle.placing.specs.Columns.{place_column}
use Rattle.placing.specs.Placed.{place_in}
use lib.ListN.{length}
use mathlib.Core.Path.{◌≡◌}
use Prim.Native.Nat.{◌+◌, ◌*◌, ◌≤◌}
use Rattle.placing.proofs.place_column.Given as goal

abbrev pub invariant-loop : goal.invariant-loop
invariant-loop l = (l.counter ≤ l.rows) × (l.at ≤ l.counter * 13 + 12) × (l.at ≡ l.counter * l.width + l.column) × (length l.table ≡ length l.initial.table) × (l.table ≡ place_column (place_in l.origins l.size l.main) l.width l.column l.counter l.initial.table)
