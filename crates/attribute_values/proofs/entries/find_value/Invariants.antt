use Rattle.attribute_values.specs.Rows.{by_steps_at}
use Rattle.attribute_values.specs.Paths.{steps}
use lib.ListN.{length, drop}
use Prim.Native.Nat.{◌-◌, ◌≤◌}
use mathlib.Core.Path.{◌≡◌}
use Rattle.attribute_values.proofs.entries.find_value.Given as goal

abbrev pub invariant-loop-k : goal.invariant-loop-k
invariant-loop-k l = (l.at ≤ length l.path) × (by_steps_at l.text l.d l.v l.e (steps (drop l.at l.path)) l.from l.sort l.row ≡ by_steps_at l.text l.d l.v l.e (steps l.path) 0 0 l.object)

abbrev pub decreases-loop-k : goal.decreases-loop-k
decreases-loop-k l = length l.path - l.at
