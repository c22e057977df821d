use Rattle.attribute_values.specs.Rows.{called_at}
use Rattle.rows.specs.Search.{find_from}
use Prim.Native.Nat.{◌-◌}
use mathlib.Core.Path.{◌≡◌}
use Rattle.attribute_values.proofs.objects.find_object.Given as goal

abbrev pub invariant-loop-i : goal.invariant-loop-i
invariant-loop-i l = find_from (called_at l.text l.o l.kind l.name) l.m l.i ≡ find_from (called_at l.text l.o l.kind l.name) l.m 0
