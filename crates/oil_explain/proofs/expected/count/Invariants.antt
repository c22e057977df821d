use Rattle.std.proofs.Common.{◌≤◌}
use Rattle.oil_explain.proofs.expected.count.Given as goal

abbrev pub invariant-loop-i : goal.invariant-loop-i
invariant-loop-i l = l.n ≤ l.i
