use Rattle.releases.specs.Starts.{other_object, object_end}
use Rattle.token.specs.Find.{find}
use mathlib.Core.Path.{◌≡◌}
use Rattle.releases.proofs.starts.object_end.Given as goal

abbrev pub invariant-loop-j : goal.invariant-loop-j
invariant-loop-j l = find (other_object l.v l.i) l.n l.j ≡ object_end l.v l.n l.i l.k
