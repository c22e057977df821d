use Rattle.definitions.proofs.Acts.{then, ValueRows}
use Rattle.definitions.specs.Rows.{Fill, Rows}
use Rattle.filling.proofs.Filling.{Going}
use Rattle.grammar.specs.Readers.{left}
use Rattle.grammar.specs.Grammar.{definitions, enumerators}
use Prim.Native.Nat.{◌+◌, ◌*◌}
use Rattle.definitions.proofs.+definition_definitions_enumerator_parameters.Given as goal

abbrev pub decreases-definition : goal.decreases-definition
decreases-definition l = 2 * left l.text.now l.a

abbrev pub invariant-definition-loop-spot : goal.invariant-definition-loop-spot
invariant-definition-loop-spot l = Going then Fill enumerators (ValueRows l.key) l.text l.initial.spot.look l.spot.look ((l.initial.d, l.initial.spot.definitions), (l.initial.e, l.initial.spot.enumerators)) ((l.d, l.spot.definitions), (l.e, l.spot.enumerators))

abbrev pub decreases-definition-loop-spot : goal.decreases-definition-loop-spot
decreases-definition-loop-spot l = left l.text l.spot.look

abbrev pub decreases-definitions : goal.decreases-definitions
decreases-definitions l = 2 * left l.text.now l.from + 1

abbrev pub invariant-definitions-loop-under : goal.invariant-definitions-loop-under
invariant-definitions-loop-under l = Going then Fill definitions (Rows l.under) l.text l.initial.spot.look l.spot.look ((l.initial.d, l.initial.spot.definitions), (l.initial.e, l.initial.spot.enumerators)) ((l.d, l.spot.definitions), (l.e, l.spot.enumerators))

abbrev pub decreases-definitions-loop-under : goal.decreases-definitions-loop-under
decreases-definitions-loop-under l = left l.text l.spot.look

abbrev pub decreases-enumerator : goal.decreases-enumerator
decreases-enumerator l = 2 * left l.text.now l.a + 1

abbrev pub decreases-parameters : goal.decreases-parameters
decreases-parameters l = 2 * left l.text.now l.a
