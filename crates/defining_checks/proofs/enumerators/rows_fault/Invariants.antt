-- `enumerators::rows_fault` meets its contract: row by row, through the index. Assumes nothing.
use Rattle.indexes.specs.Indexing.{Through, By}
use Rattle.defining_checks.specs.Promises.{EnumeratorsFault}
use Rattle.defining_checks.proofs.enumerators.rows_fault.Given as goal

abbrev pub invariant-loop-j : goal.invariant-loop-j
invariant-loop-j l = Through (By l.text l.e 3 0 1 l.x) l.n (EnumeratorsFault l.text l.e l.j l.best)
