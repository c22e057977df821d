use Rattle.attribute_values.specs.Rows.{named_at, picked_at, seek}
use Prim.Native.Nat.{◌-◌, ◌≤◌}
use mathlib.Core.Path.{◌≡◌}
use Rattle.attribute_values.proofs.entries.find_named.Given as goal

abbrev pub invariant-loop-k : goal.invariant-loop-k
invariant-loop-k l = (l.n ≤ l.k) × (seek (named_at l.text l.d l.v l.sort l.row l.name) (picked_at l.d l.v l.mark) (l.e - l.k) l.k l.n ≡ seek (named_at l.text l.d l.v l.sort l.row l.name) (picked_at l.d l.v l.mark) (l.e - l.i) l.i 0)
