use native.Mathlib.Omega.{arith}
use Rattle.object_parts.proofs.Stated.{lines, statements_on, statements_gone, block_none, block_there, value_true_there, value_false_there, value_name_there, value_number_there, value_string_there, value_float_there, value_auto_there, value_none, statement_there}
use Rattle.object_parts.specs.Rows.{StatementRows}
use Rattle.filling.proofs.Filling.{going}
use Rattle.grammar.proofs.Rules.{name_taken, name_less, value_no}
use Rattle.grammar.proofs.Terminals.{rbrace_is, equals_is}
use Rattle.grammar.proofs.Meeting.{went_on}
use Rattle.grammar.specs.Grammar.{statements}
use mathlib.Core.Path.{sym, ◌∙◌}
use Rattle.object_parts.proofs.+block_statement_statements_value.Goals as goal

pub block-returns-then-a-ne-LBRACE : goal.block-returns-then-a-ne-LBRACE
block-returns-then-a-ne-LBRACE t c = block_none c.if-a-ne-LBRACE.true

pub block-statements-c-requires : goal.block-statements-c-requires
block-statements-c-requires t c = let w = went_on 45 tt _ _ _ c.if-a-ne-LBRACE.false c.advance-b.ensures in (omega arith, tt)

pub block-shape_of-s : goal.block-shape_of-s
block-shape_of-s t c = c.statements-c.ensures.does.1.size

pub block-returns : goal.block-returns
block-returns t c = block_there c.if-a-ne-LBRACE.false c.advance-b.ensures c.statements-c.ensures (rbrace_is c.expect-d.ensures)

pub statement-value-v-requires : goal.statement-value-v-requires
statement-value-v-requires t c = let n = equals_is c.expect-c.ensures in (omega arith, tt)

pub statement-returns : goal.statement-returns
statement-returns t c = statement_there _ c.expect_name-b.ensures (equals_is c.expect-c.ensures) c.next-k.ensures c.value-v.ensures c.length-size.ensures c.length-len.ensures c.put_row.ensures c.finish-d.ensures

pub statements-loop-s-init : goal.statements-loop-s-init
statements-loop-s-init t c = going lines statements StatementRows

pub statements-statement-spot-requires : goal.statements-statement-spot-requires
statements-statement-spot-requires t c = (omega arith, tt)

pub statements-loop-s-smaller : goal.statements-loop-s-smaller
statements-loop-s-smaller t c = name_less (sym c.is_name.ensures ∙ c.loop-s-test.true) c.statement-spot.ensures.fills.meets

pub statements-loop-s-preserved : goal.statements-loop-s-preserved
statements-loop-s-preserved t c = statements_on c.loop-s.invariant (sym c.is_name.ensures ∙ c.loop-s-test.true) c.statement-spot.ensures

pub statements-shape_of-s : goal.statements-shape_of-s
statements-shape_of-s t c = c.loop-s.invariant.does.1.size

pub statements-returns : goal.statements-returns
statements-returns t c = statements_gone c.loop-s.invariant (sym c.is_name.ensures ∙ c.loop-s-test.false)

pub value-returns-then-code-eq-NUMERAL : goal.value-returns-then-code-eq-NUMERAL
value-returns-then-code-eq-NUMERAL t c = value_number_there c.if-code-eq-NUMERAL.true c.advance-b.ensures

pub value-returns-then-code-eq-QUOTED : goal.value-returns-then-code-eq-QUOTED
value-returns-then-code-eq-QUOTED t c = value_string_there c.if-code-eq-QUOTED.true c.advance-b-then-code-eq-QUOTED.ensures

pub value-returns-then-code-eq-AUTO : goal.value-returns-then-code-eq-AUTO
value-returns-then-code-eq-AUTO t c = value_auto_there c.if-code-eq-AUTO.true c.advance-b-then-code-eq-AUTO.ensures

pub value-block-requires : goal.value-block-requires
value-block-requires t c = let w = went_on 1 tt _ _ _ c.if-code-eq-TRUE.true c.advance-b-then-code-eq-TRUE.ensures in (omega arith, tt)

pub value-shape_of-s-then-code-eq-TRUE : goal.value-shape_of-s-then-code-eq-TRUE
value-shape_of-s-then-code-eq-TRUE t c = c.block.ensures.does.1.size

pub value-returns-then-code-eq-TRUE : goal.value-returns-then-code-eq-TRUE
value-returns-then-code-eq-TRUE t c = value_true_there _ c.if-code-eq-TRUE.true c.advance-b-then-code-eq-TRUE.ensures c.block.ensures

pub value-block-requires-then-code-eq-FALSE : goal.value-block-requires-then-code-eq-FALSE
value-block-requires-then-code-eq-FALSE t c = let w = went_on 2 tt _ _ _ c.if-code-eq-FALSE.true c.advance-b-then-code-eq-FALSE.ensures in (omega arith, tt)

pub value-shape_of-s-then-code-eq-FALSE : goal.value-shape_of-s-then-code-eq-FALSE
value-shape_of-s-then-code-eq-FALSE t c = c.block-then-code-eq-FALSE.ensures.does.1.size

pub value-returns-then-code-eq-FALSE : goal.value-returns-then-code-eq-FALSE
value-returns-then-code-eq-FALSE t c = value_false_there _ c.if-code-eq-FALSE.true c.advance-b-then-code-eq-FALSE.ensures c.block-then-code-eq-FALSE.ensures

pub value-block-requires-then-is_name : goal.value-block-requires-then-is_name
value-block-requires-then-is_name t c = let h = sym c.is_name.ensures ∙ c.if-is_name.true in let w = name_less h (name_taken h c.advance-b-then-is_name.ensures) in (omega arith, tt)

pub value-shape_of-s-then-is_name : goal.value-shape_of-s-then-is_name
value-shape_of-s-then-is_name t c = c.block-then-is_name.ensures.does.1.size

pub value-returns-then-is_name : goal.value-returns-then-is_name
value-returns-then-is_name t c = value_name_there _ (sym c.is_name.ensures ∙ c.if-is_name.true) c.advance-b-then-is_name.ensures c.block-then-is_name.ensures

pub value-returns-then-code-eq-FLOATING : goal.value-returns-then-code-eq-FLOATING
value-returns-then-code-eq-FLOATING t c = value_float_there c.if-code-eq-FLOATING.true c.advance-b-then-code-eq-FLOATING.ensures

pub value-returns : goal.value-returns
value-returns t c = value_none (value_no c.if-code-eq-NUMERAL.false c.if-code-eq-QUOTED.false c.if-code-eq-AUTO.false c.if-code-eq-TRUE.false c.if-code-eq-FALSE.false (sym c.is_name.ensures ∙ c.if-is_name.false) c.if-code-eq-FLOATING.false c.refuse-b.ensures) c.refuse-b.ensures
