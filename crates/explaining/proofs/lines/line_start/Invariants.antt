-- `explaining::lines::line_start` meets its contract: the line of each place passed starts where the place's own does.
-- Assumes nothing.
use Rattle.explaining.specs.Places.{line_start}
use mathlib.Core.Path.{◌≡◌}
use Rattle.explaining.proofs.lines.line_start.Given as goal

abbrev pub invariant-loop-i : goal.invariant-loop-i
invariant-loop-i l = line_start l.text l.i ≡ line_start l.text l.at
