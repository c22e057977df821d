-- `judging::marking::marks` meets its contract.
-- Assumes nothing.
use Rattle.scopes.specs.Given.{Given}
use Rattle.judging.specs.Promises.{Marked}
use Rattle.meaning.specs.Syntax.{File}
use lib.ListN.{length}
use Prim.Native.Nat.{ℕ, ◌-◌}
use mathlib.Core.List.{List}
use mathlib.Core.Path.{◌≡◌}
use Rattle.judging.proofs.marking.marks.Given as goal

abbrev pub invariant-loop-j : goal.invariant-loop-j
invariant-loop-j l = (length l.missing ≡ 512) × ((o : List ℕ) (f : File) → Given l.text l.d l.e o l.st l.z f → Marked f l.missing l.j)
