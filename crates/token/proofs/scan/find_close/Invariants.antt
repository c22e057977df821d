-- `token::scan::find_close` meets its contract: the place to be found from i on is that to be found from the start.
-- Assumes nothing.
use mathlib.Core.Path.{◌≡◌}
use Rattle.token.specs.Bytes.{find_close}
use Rattle.token.proofs.scan.find_close.Given as goal

abbrev pub invariant-loop-i : goal.invariant-loop-i
invariant-loop-i l = find_close l.text l.i ≡ find_close l.text l.from
