use Rattle.grammar.proofs.Meeting.{Still}
use Rattle.grammar.specs.Readers.{left}
use Rattle.grammar.specs.Grammar.{numbers}
use Rattle.grammar.proofs.parts.numbers.Given as goal

abbrev pub invariant-loop-a : goal.invariant-loop-a
invariant-loop-a l = Still numbers l.text l.initial.a l.a

abbrev pub decreases-loop-a : goal.decreases-loop-a
decreases-loop-a l = left l.text l.a
