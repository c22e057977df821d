use Rattle.checks.specs.Promises.{Noted, Met}
use Rattle.meaning.specs.Syntax.{File}
use Prim.Native.Nat.{ℕ, ◌≤◌}
use mathlib.Core.List.{List}
use Rattle.checks.proofs.objects.check_parts.Given as goal

abbrev pub invariant-loop-j : goal.invariant-loop-j
invariant-loop-j l = (l.k ≤ l.j) × ((s : List ℕ) (f : File) → Noted s l.p l.x l.n f → Met f l.j l.best l.k l.counts)
