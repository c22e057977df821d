use mathlib.Core.Path.{◌≡◌}
use Rattle.rows.specs.Search.{find_named}
use Rattle.causes.proofs.find_named.Given as goal

abbrev pub invariant-loop-i : goal.invariant-loop-i
invariant-loop-i l = find_named l.text l.t l.width l.rows l.column l.key l.name l.at l.len l.i ≡ find_named l.text l.t l.width l.rows l.column l.key l.name l.at l.len 0
