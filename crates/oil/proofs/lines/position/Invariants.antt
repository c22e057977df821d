use Rattle.std.proofs.Common.{◌≤◌}
use Rattle.oil.proofs.lines.position.Given as goal

abbrev pub invariant-loop-j : goal.invariant-loop-j
invariant-loop-j l = l.p ≤ l.j
