use native.Mathlib.Omega.{arith}
use Rattle.indexes.proofs.Throughs.{room_long, room_fits}
use Rattle.defining_checks.proofs.definitions.rows_fault.Goals as goal

pub slice_bounds-indexed_fault-end : goal.slice_bounds-indexed_fault-end
slice_bounds-indexed_fault-end c = room_long _ _ c.requires

pub slice_bounds-indexed_fault-end-2 : goal.slice_bounds-indexed_fault-end-2
slice_bounds-indexed_fault-end-2 c = room_long _ _ c.requires

pub indexed_fault-requires : goal.indexed_fault-requires
indexed_fault-requires c = (room_fits _ _ c.requires _ (omega arith) (omega arith), room_fits _ _ c.requires _ (omega arith) (omega arith))
