-- `token::scan::find_byte` meets its contract: the place to be found from i on is that to be found from the start.
-- Assumes nothing.
use mathlib.Core.Path.{◌≡◌}
use Rattle.token.specs.Bytes.{find_byte}
use Rattle.token.proofs.scan.find_byte.Given as goal

abbrev pub invariant-loop-i : goal.invariant-loop-i
invariant-loop-i l = find_byte l.b l.text l.i ≡ find_byte l.b l.text l.from
