-- `definitions::each_fault` meets its contract: row by row, through the index. Assumes nothing.
use Rattle.std.specs.Prelude.{is_some, unwrap_or}
use Rattle.indexes.specs.Indexing.{Through, ByTwo}
use Rattle.defining_checks.specs.Promises.{RowsFault}
use Rattle.defining_checks.proofs.definitions.each_fault.Given as goal

abbrev pub invariant-loop-j : goal.invariant-loop-j
invariant-loop-j l = Through (ByTwo l.text l.d 19 0 13 2 l.x l.y) l.n (RowsFault l.text l.d l.e l.xe (is_some l.limit) (unwrap_or l.limit 0) l.j l.best)
