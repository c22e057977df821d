use mathlib.Core.Path.{◌≡◌}
use lib.ListN.{drop}
use Rattle.explaining.specs.Characters.{state_of}
use Rattle.explaining.proofs.characters.state.Given as goal

abbrev pub invariant-loop-b : goal.invariant-loop-b
invariant-loop-b l = state_of l.k (drop l.b-index l.bytes) ≡ state_of 0 l.bytes
