use mathlib.Core.List.{List}
use Prim.Native.Nat.{ℕ}
use Rattle.meaning.specs.Syntax.{File}
use Rattle.checks.specs.Promises.{Titled, Unclashed}
use Rattle.checks.proofs.objects.name_fault.Given as goal

abbrev pub invariant-loop-j : goal.invariant-loop-j
invariant-loop-j l = (s : List ℕ) (f : File) → Titled s l.p l.y l.n f → Unclashed f l.j
