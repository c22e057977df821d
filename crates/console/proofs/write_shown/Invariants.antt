use Rattle.std.proofs.Common.{length, ◌-◌}
use Rattle.console.proofs.write_shown.Given as goal

abbrev pub decreases-loop-i : goal.decreases-loop-i
decreases-loop-i l = length l.bytes - l.i
