use Rattle.amounts.proofs.Rises.{Left}
use Rattle.amounts.proofs.noting.rises.Given as goal

abbrev pub invariant-loop-cell : goal.invariant-loop-cell
invariant-loop-cell l = Left l.l l.cell-index l.last
