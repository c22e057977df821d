use Rattle.object_parts.proofs.Applied.{beside}
use Rattle.object_parts.specs.Rows.{FillAll, AllRows}
use Rattle.filling.proofs.Filling.{Going}
use Rattle.grammar.specs.Readers.{left}
use Rattle.grammar.specs.Grammar.{objects}
use Rattle.object_parts.proofs.parts.Given as goal

abbrev pub invariant-loop-kind : goal.invariant-loop-kind
invariant-loop-kind l = Going beside FillAll objects AllRows l.text l.initial.passed.look l.passed.look (l.initial.counts, ((l.initial.p, l.initial.passed.parts), (l.initial.s, l.initial.passed.statements))) (l.counts, ((l.p, l.passed.parts), (l.s, l.passed.statements)))

abbrev pub decreases-loop-kind : goal.decreases-loop-kind
decreases-loop-kind l = left l.text l.passed.look
