use Rattle.writing.proofs.Turns.{Going}
use Prim.Native.Nat.{◌+◌, ◌-◌, ◌*◌}
use Rattle.writing.proofs.values.+put_line_put_lines.Given as goal

abbrev pub decreases-put_line : goal.decreases-put_line
decreases-put_line l = 2 * (l.n - l.k)

abbrev pub decreases-put_lines : goal.decreases-put_lines
decreases-put_lines l = 2 * (l.n - l.i) + 1

abbrev pub invariant-put_lines-loop-out : goal.invariant-put_lines-loop-out
invariant-put_lines-loop-out l = Going l.text l.d l.v l.n l.i l.sort l.row l.initial.out l.at l.k l.out l.e

abbrev pub decreases-put_lines-loop-out : goal.decreases-put_lines-loop-out
decreases-put_lines-loop-out l = l.n - l.k
