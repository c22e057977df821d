use mathlib.Core.Path.{◌≡◌}
use Rattle.sources.specs.Lines.{line_start}
use Rattle.sources.proofs.scan.line_start.Given as goal

abbrev pub invariant-loop-i : goal.invariant-loop-i
invariant-loop-i l = line_start l.text l.i ≡ line_start l.text l.at
