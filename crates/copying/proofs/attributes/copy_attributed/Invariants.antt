use Rattle.copying.proofs.Stretches.{Copying}
use Rattle.copying.specs.Copies.{attributed}
use Rattle.copying.proofs.attributes.copy_attributed.Given as goal

abbrev pub invariant-loop : goal.invariant-loop
invariant-loop l = Copying (attributed l.d l.n) l.e 3 3 l.m l.initial.out l.out l.counter l.start l.place
