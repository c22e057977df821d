use Prim.Native.Nat.{◌-◌}
use mathlib.Core.Path.{◌≡◌}
use lib.ListN.{length}
use Rattle.token.specs.Bytes.{find_byte}
use Rattle.attribute_values.proofs.paths.find_byte.Given as goal

abbrev pub invariant-loop-i : goal.invariant-loop-i
invariant-loop-i l = find_byte l.b l.path l.i ≡ find_byte l.b l.path l.from
