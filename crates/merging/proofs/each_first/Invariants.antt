use Rattle.merging.specs.Parts.{first_rows}
use Rattle.indexes.specs.Indexing.{Through, By}
use lib.Seq.{sets}
use Prim.Native.Nat.{◌-◌}
use mathlib.Core.Path.{◌≡◌}
use Rattle.merging.proofs.each_first.Given as goal

abbrev pub invariant-loop-j : goal.invariant-loop-j
invariant-loop-j l = Through (By l.text l.p 10 l.column 3 l.x) l.n (sets l.out l.j (first_rows l.column l.text l.p (l.n - l.j) l.j) ≡ sets l.initial.out 0 (first_rows l.column l.text l.p l.n 0))
