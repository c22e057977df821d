-- `explaining::lines::line_feeds` meets its contract: what is counted and what is left to count are the whole.
-- Assumes nothing.
use Rattle.explaining.specs.Places.{line_feeds}
use lib.ListN.{drop}
use mathlib.Core.Path.{◌≡◌}
use Prim.Native.Nat.{◌≤◌, ◌+◌}
use Rattle.explaining.proofs.lines.line_feeds.Given as goal

abbrev pub invariant-loop-b : goal.invariant-loop-b
invariant-loop-b l = (l.n ≤ l.b-index) × (l.n + line_feeds (drop l.b-index l.bytes) ≡ line_feeds l.bytes)
