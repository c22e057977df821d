-- `explaining::drawing::put` meets its contract: what is left to store decides the whole.
-- Assumes nothing.
use mathlib.Core.Path.{◌≡◌}
use mathlib.Core.List.{map}
use lib.ListN.{drop}
use lib.Seq.{sets}
use Rattle.explaining.specs.Pictures.{drawn}
use Rattle.explaining.proofs.drawing.put.Given as goal

abbrev pub invariant-loop-b : goal.invariant-loop-b
invariant-loop-b l = sets l.out l.j (map (drawn l.ink) (drop l.b-index l.bytes)) ≡ sets l.initial.out l.at (map (drawn l.ink) l.bytes)
