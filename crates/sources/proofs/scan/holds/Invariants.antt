use Rattle.sources.specs.Plain.{holds}
use lib.ListN.{take}
use mathlib.Core.Path.{◌≡◌}
use Rattle.sources.proofs.scan.holds.Given as goal

abbrev pub invariant-loop-i : goal.invariant-loop-i
invariant-loop-i l = l.seen ≡ holds l.b (take l.i l.text)
