use Rattle.grammar.proofs.Rules.{number_item, comma_less, numbers_again, numbers_done}
use Rattle.grammar.proofs.Meeting.{still}
use Rattle.grammar.specs.Grammar.{numbers}
use Rattle.grammar.proofs.parts.numbers.Goals as goal

pub loop-a-init : goal.loop-a-init
loop-a-init c = still numbers

pub loop-a-smaller : goal.loop-a-smaller
loop-a-smaller c = comma_less c.loop-a-test.true (number_item c.loop-a-test.true c.advance-b.ensures c.expect-a.ensures)

pub loop-a-preserved : goal.loop-a-preserved
loop-a-preserved c = numbers_again c.loop-a.invariant c.loop-a-test.true (number_item c.loop-a-test.true c.advance-b.ensures c.expect-a.ensures)

pub returns : goal.returns
returns c = numbers_done c.loop-a.invariant c.loop-a-test.false
