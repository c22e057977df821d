-- `explaining::lines::line_end` meets its contract: the line of each place passed ends where the place's own does.
-- Assumes nothing.
use Rattle.explaining.specs.Places.{line_end}
use mathlib.Core.Path.{◌≡◌}
use Rattle.explaining.proofs.lines.line_end.Given as goal

abbrev pub invariant-loop-i : goal.invariant-loop-i
invariant-loop-i l = line_end l.text l.i ≡ line_end l.text l.at
