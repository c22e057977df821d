use Rattle.releases.specs.Starts.{start_at}
use Rattle.comparing.specs.Columns.{Holds}
use mathlib.Core.Path.{◌≡◌}
use Rattle.releases.proofs.starts.fill_starts.Given as goal

abbrev pub invariant-loop-i : goal.invariant-loop-i
invariant-loop-i l = (l.k ≡ start_at l.v l.n l.i) × Holds (start_at l.v l.n) l.i l.st
