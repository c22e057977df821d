-- `rows::parts::same_rest` meets its contract: comparing from i on gives what comparing from the start does.
-- Assumes nothing.
use Rattle.token.specs.Words.{same}
use lib.ListN.{length, drop}
use mathlib.Core.Path.{◌≡◌}
use Rattle.rows.proofs.parts.same_rest.Given as goal

abbrev pub invariant-loop-i : goal.invariant-loop-i
invariant-loop-i l = (length l.a ≡ length l.b) × (same (drop l.i l.a) (drop l.i l.b) ≡ same l.a l.b)
