use Rattle.indexes.proofs.Throughs.{room_long, room_fits}
use native.Mathlib.Omega.{arith}
use Prim.Native.Nat.{◌≤◌}
use Rattle.merging.proofs.firsts.Goals as goal

pub returns-then-n-gt-ROWS : goal.returns-then-n-gt-ROWS
returns-then-n-gt-ROWS c = λ h. absurd (omega arith)

pub slice_bounds-indexed_firsts-end : goal.slice_bounds-indexed_firsts-end
slice_bounds-indexed_firsts-end c = let h : c.args.n ≤ 513 = omega arith in room_long _ _ h

pub indexed_firsts-requires : goal.indexed_firsts-requires
indexed_firsts-requires c = let h : c.args.n ≤ 513 = omega arith in room_fits _ _ h _ (omega arith) (omega arith)
