-- `rows::finding::find_row` meets its contract: searching from i on gives what searching from the start does.
-- Assumes nothing.
use Rattle.rows.specs.Search.{find_row}
use lib.ListN.{length}
use mathlib.Core.Path.{◌≡◌}
use Prim.Native.Nat.{◌*◌, min}
use Rattle.rows.proofs.finding.find_row.Given as goal

abbrev pub invariant-loop-i : goal.invariant-loop-i
invariant-loop-i l = (l.at ≡ min (length l.t) (l.i * l.width)) × (find_row l.t l.width l.rows l.column l.key l.i ≡ find_row l.t l.width l.rows l.column l.key l.from)
