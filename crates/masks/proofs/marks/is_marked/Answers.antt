use native.Mathlib.Omega.{arith}
use Prim.Native.Nat.{◌+◌}
use Rattle.masks.proofs.Looping.{mark_past}
use Rattle.masks.proofs.marks.is_marked.Goals as goal

pub returns-then-marks-at : goal.returns-then-marks-at
returns-then-marks-at c = mark_past c.args.marks.now (c.args.at + c.args.x) (omega arith)

pub returns-then-marks-at-2 : goal.returns-then-marks-at-2
returns-then-marks-at-2 c = mark_past c.args.marks.now (c.args.at + c.args.x) (omega arith)
