use mathlib.Core.Path.{◌≡◌}
use Rattle.rows.specs.Search.{find_from}
use Rattle.standard.specs.Naming.{is_named_under}
use Rattle.standard.proofs.naming.find_named.Given as goal

abbrev pub invariant-loop-i : goal.invariant-loop-i
invariant-loop-i l = find_from (λ i. is_named_under l.text l.table l.columns l.key i l.name) l.rows l.i ≡ find_from (λ i. is_named_under l.text l.table l.columns l.key i l.name) l.rows 0
