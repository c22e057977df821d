use Rattle.rows.specs.Search.{find_row}
use lib.ListN.{length}
use Prim.Native.Nat.{◌*◌, ◌-◌, ◌≤◌}
use mathlib.Core.Path.{◌≡◌}
use Rattle.judging.proofs.marking.find_under.Given as goal

abbrev pub invariant-loop-k : goal.invariant-loop-k
invariant-loop-k l = (l.n ≤ 512) × (9728 ≤ length l.d) × (l.p ≡ l.k * 19) × (find_row l.d 19 l.n 0 l.key l.k ≡ find_row l.d 19 l.n 0 l.key l.i)
