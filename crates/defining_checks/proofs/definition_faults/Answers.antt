-- `definition_faults` meets its contract: the room for the index is large enough. Assumes nothing.
use Prim.Native.Nat.{◌≤◌}
use native.Mathlib.Omega.{arith}
use Rattle.indexes.proofs.Throughs.{room_long, room_fits}
use Rattle.defining_checks.proofs.definition_faults.Goals as goal

pub slice_bounds-indexed_faults-end : goal.slice_bounds-indexed_faults-end
slice_bounds-indexed_faults-end c = let h : c.least_of-kept.result ≤ 1025 = omega arith in room_long _ _ h

pub indexed_faults-requires : goal.indexed_faults-requires
indexed_faults-requires c = let h : c.least_of-kept.result ≤ 1025 = omega arith in (c.least_of-kept.ensures, room_fits _ _ h _ (omega (arith, h)) (omega (arith, h)))
