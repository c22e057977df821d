use Rattle.implementation.proofs.Implementing.{beside}
use Rattle.implementation.specs.Places.{FillAll, AllRows}
use Rattle.filling.proofs.Filling.{Going}
use Rattle.grammar.specs.Readers.{left}
use Rattle.grammar.specs.Grammar.{specs}
use Rattle.implementation.proofs.specs.Given as goal

abbrev pub invariant-loop-kind : goal.invariant-loop-kind
invariant-loop-kind l = Going beside FillAll specs AllRows l.text l.initial.spot.look l.spot.look (record { marks = l.initial.marks; places = l.initial.places; again = l.initial.again }, ((l.initial.d, l.initial.spot.definitions), (l.initial.e, l.initial.spot.enumerators))) (record { marks = l.marks; places = l.places; again = l.again }, ((l.d, l.spot.definitions), (l.e, l.spot.enumerators)))

abbrev pub decreases-loop-kind : goal.decreases-loop-kind
decreases-loop-kind l = left l.text l.spot.look
