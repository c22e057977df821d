use Rattle.copying.proofs.Stretches.{Copying}
use Rattle.copying.specs.Copies.{as_is}
use Rattle.copying.proofs.heads.copy_rows.Given as goal

abbrev pub invariant-loop : goal.invariant-loop
invariant-loop l = Copying as_is l.from l.width l.count l.n l.initial.to l.to l.counter l.start l.place
