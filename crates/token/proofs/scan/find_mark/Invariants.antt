use mathlib.Core.Path.{◌≡◌}
use Rattle.token.specs.Bytes.{find_mark}
use Rattle.token.proofs.scan.find_mark.Given as goal

abbrev pub invariant-loop-i : goal.invariant-loop-i
invariant-loop-i l = find_mark l.text l.end l.i ≡ find_mark l.text l.end l.from
