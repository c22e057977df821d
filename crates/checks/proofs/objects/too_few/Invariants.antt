use mathlib.Core.Path.{◌≡◌}
use Prim.Native.Nat.{◌-◌}
use Rattle.checks.specs.Cells.{lacking_from}
use Rattle.checks.proofs.objects.too_few.Given as goal

abbrev pub invariant-loop-i : goal.invariant-loop-i
invariant-loop-i l = lacking_from l.counts l.i ≡ lacking_from l.counts 0
