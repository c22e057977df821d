use Rattle.object_parts.proofs.Stated.{then}
use Rattle.object_parts.specs.Rows.{Fill, StatementRows}
use Rattle.filling.proofs.Filling.{Going}
use Rattle.grammar.specs.Readers.{left}
use Rattle.grammar.specs.Grammar.{statements}
use Prim.Native.Nat.{◌+◌, ◌*◌}
use Rattle.object_parts.proofs.+block_statement_statements_value.Given as goal

abbrev pub decreases-block : goal.decreases-block
decreases-block l = 4 * left l.text.now l.a

abbrev pub decreases-statement : goal.decreases-statement
decreases-statement l = 4 * left l.text.now l.a + 1

abbrev pub decreases-statements : goal.decreases-statements
decreases-statements l = 4 * left l.text.now l.from + 2

abbrev pub invariant-statements-loop-s : goal.invariant-statements-loop-s
invariant-statements-loop-s l = Going then Fill statements StatementRows l.text l.initial.spot.look l.spot.look (l.initial.s, l.initial.spot.statements) (l.s, l.spot.statements)

abbrev pub decreases-statements-loop-s : goal.decreases-statements-loop-s
decreases-statements-loop-s l = left l.text l.spot.look

abbrev pub decreases-value : goal.decreases-value
decreases-value l = 4 * left l.text.now l.a
