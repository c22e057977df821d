use native.Mathlib.Omega.{arith}
use Rattle.definitions.proofs.Acts.{tables, typed_plain, typed_list, reference_defined, integer_defined, float_defined, string_defined, truths_none, truths_there, boolean_defined, enum_defined, parameters_none, parameters_there, enumerator_there, definition_none, definitions_on, definitions_gone, enumerators_on, ValueRows}
use Rattle.definitions.specs.Rows.{Rows}
use Rattle.filling.proofs.Filling.{going}
use Rattle.grammar.proofs.Rules.{comma_less, lsquare_taken, enumerators_item, definition_no, definitions_less, twice_less, twice_one_less, comma_one_less}
use Rattle.grammar.proofs.Terminals.{rbrace_is, lsquare_is, rsquare_is, true_is, false_is, comma_is}
use Rattle.grammar.proofs.Meeting.{◌⊳◌, went_on}
use Rattle.grammar.specs.Readers.{sort_at}
use Rattle.grammar.specs.Grammar.{definitions, enumerators}
use mathlib.Core.Path.{sym, ◌∙◌}
use Rattle.definitions.proofs.+definition_definitions_enumerator_parameters.Goals as goal

pub definition-shape_of-d-then-c-ne-LSQUARE : goal.definition-shape_of-d-then-c-ne-LSQUARE
definition-shape_of-d-then-c-ne-LSQUARE t c = c.named-x.ensures.does.size

pub definition-returns-then-c-ne-LSQUARE : goal.definition-returns-then-c-ne-LSQUARE
unfolding sort_at
definition-returns-then-c-ne-LSQUARE t c = boolean_defined _ c.if-code-eq-BOOLEAN.true c.advance-b.ensures c.auto-w.ensures (truths_none c.args.a c.if-c-ne-LSQUARE.true c.head-h.ensures) (typed_plain c.args.a c.head-h.ensures) c.named-x.ensures

pub definition-parameters-p-requires : goal.definition-parameters-p-requires
definition-parameters-p-requires t c = (twice_less _ 40 tt c.decreases c.if-code-eq-BOOLEAN.true c.advance-b.ensures (c.auto-w.ensures.meets ⊳ lsquare_taken c.if-c-ne-LSQUARE.false c.advance-f.ensures ⊳ true_is c.expect-g.ensures), tt)

pub definition-parameters-q-requires : goal.definition-parameters-q-requires
definition-parameters-q-requires t c = (twice_less _ 40 tt c.decreases c.if-code-eq-BOOLEAN.true c.advance-b.ensures (c.auto-w.ensures.meets ⊳ lsquare_taken c.if-c-ne-LSQUARE.false c.advance-f.ensures ⊳ true_is c.expect-g.ensures ⊳ c.parameters-p.ensures.fills.meets ⊳ c.description-i.ensures ⊳ comma_is c.expect-j.ensures ⊳ false_is c.expect-k.ensures), tt)

pub definition-shape_of-d-then-code-eq-BOOLEAN : goal.definition-shape_of-d-then-code-eq-BOOLEAN
definition-shape_of-d-then-code-eq-BOOLEAN t c = c.named-x-then-code-eq-BOOLEAN.ensures.does.size ∙ c.parameters-q.ensures.does.0.size ∙ c.parameters-p.ensures.does.0.size

pub definition-shape_of-e-then-code-eq-BOOLEAN : goal.definition-shape_of-e-then-code-eq-BOOLEAN
definition-shape_of-e-then-code-eq-BOOLEAN t c = c.parameters-q.ensures.does.1.size ∙ c.parameters-p.ensures.does.1.size

pub definition-returns-then-code-eq-BOOLEAN : goal.definition-returns-then-code-eq-BOOLEAN
unfolding sort_at
definition-returns-then-code-eq-BOOLEAN t c = boolean_defined _ c.if-code-eq-BOOLEAN.true c.advance-b.ensures c.auto-w.ensures (truths_there c.args.a c.if-c-ne-LSQUARE.false c.advance-f.ensures (true_is c.expect-g.ensures) c.length-truth.ensures c.parameters-p.ensures c.description-i.ensures (comma_is c.expect-j.ensures) (false_is c.expect-k.ensures) c.length-width.ensures c.parameters-q.ensures c.description-l.ensures (rsquare_is c.expect-o.ensures) c.through-extent.ensures c.with_list-h.ensures) (typed_list c.args.a c.with_list-h.ensures) c.named-x-then-code-eq-BOOLEAN.ensures

pub definition-enumerator-spot-requires : goal.definition-enumerator-spot-requires
definition-enumerator-spot-requires t c = (twice_one_less _ 41 tt c.decreases c.if-code-eq-ENUM.true c.advance-b-then-code-eq-ENUM.ensures (c.auto-w-then-code-eq-ENUM.ensures.meets ⊳ lsquare_is c.expect-f.ensures), tt)

pub definition-loop-spot-init : goal.definition-loop-spot-init
definition-loop-spot-init t c = going tables enumerators (ValueRows _)

pub definition-enumerator-spot-requires-in-loop-spot : goal.definition-enumerator-spot-requires-in-loop-spot
definition-enumerator-spot-requires-in-loop-spot t c = (comma_one_less _ (twice_less _ 41 tt c.decreases c.if-code-eq-ENUM.true c.advance-b-then-code-eq-ENUM.ensures (c.auto-w-then-code-eq-ENUM.ensures.meets ⊳ lsquare_is c.expect-f.ensures ⊳ c.enumerator-spot.ensures.fills.meets)) c.loop-spot.invariant.still c.loop-spot-test.true c.advance-k.ensures, tt)

pub definition-loop-spot-smaller : goal.definition-loop-spot-smaller
definition-loop-spot-smaller t c = comma_less c.loop-spot-test.true (enumerators_item c.loop-spot-test.true c.advance-k.ensures c.enumerator-spot-in-loop-spot.ensures.fills.meets)

pub definition-loop-spot-preserved : goal.definition-loop-spot-preserved
definition-loop-spot-preserved t c = enumerators_on _ c.loop-spot.invariant c.loop-spot-test.true c.advance-k.ensures c.enumerator-spot-in-loop-spot.ensures

pub definition-shape_of-d-then-code-eq-ENUM : goal.definition-shape_of-d-then-code-eq-ENUM
definition-shape_of-d-then-code-eq-ENUM t c = c.named-x-then-code-eq-ENUM.ensures.does.size ∙ c.loop-spot.invariant.does.0.size ∙ c.enumerator-spot.ensures.does.0.size

pub definition-shape_of-e-then-code-eq-ENUM : goal.definition-shape_of-e-then-code-eq-ENUM
definition-shape_of-e-then-code-eq-ENUM t c = c.loop-spot.invariant.does.1.size ∙ c.enumerator-spot.ensures.does.1.size

pub definition-returns-then-code-eq-ENUM : goal.definition-returns-then-code-eq-ENUM
unfolding sort_at
definition-returns-then-code-eq-ENUM t c = enum_defined _ c.if-code-eq-ENUM.true c.advance-b-then-code-eq-ENUM.ensures c.auto-w-then-code-eq-ENUM.ensures (lsquare_is c.expect-f.ensures) c.enumerator-spot.ensures c.loop-spot.invariant c.loop-spot-test.false (rsquare_is c.expect-o-then-code-eq-ENUM.ensures) c.through-extent-then-code-eq-ENUM.ensures c.with_list-h-then-code-eq-ENUM.ensures c.named-x-then-code-eq-ENUM.ensures

pub definition-shape_of-d-then-code-eq-STRING : goal.definition-shape_of-d-then-code-eq-STRING
definition-shape_of-d-then-code-eq-STRING t c = c.string-x.ensures.does.size

pub definition-returns-then-code-eq-STRING : goal.definition-returns-then-code-eq-STRING
definition-returns-then-code-eq-STRING t c = string_defined _ c.if-code-eq-STRING.true c.advance-b-then-code-eq-STRING.ensures c.string-x.ensures

pub definition-shape_of-d-then-is_integer : goal.definition-shape_of-d-then-is_integer
definition-shape_of-d-then-is_integer t c = c.integer-x.ensures.does.size

pub definition-returns-then-is_integer : goal.definition-returns-then-is_integer
definition-returns-then-is_integer t c = integer_defined _ (sym c.is_integer.ensures ∙ c.if-is_integer.true) c.advance-b-then-is_integer.ensures c.integer-x.ensures

pub definition-shape_of-d-then-is_type : goal.definition-shape_of-d-then-is_type
definition-shape_of-d-then-is_type t c = c.reference-x.ensures.does.size

pub definition-returns-then-is_type : goal.definition-returns-then-is_type
definition-returns-then-is_type t c = reference_defined _ (sym c.is_type.ensures ∙ c.if-is_type.true) c.advance-b-then-is_type.ensures c.reference-x.ensures

pub definition-shape_of-d-then-code-eq-FLOAT : goal.definition-shape_of-d-then-code-eq-FLOAT
definition-shape_of-d-then-code-eq-FLOAT t c = c.float-x.ensures.does.size

pub definition-returns-then-code-eq-FLOAT : goal.definition-returns-then-code-eq-FLOAT
definition-returns-then-code-eq-FLOAT t c = float_defined _ c.if-code-eq-FLOAT.true c.advance-b-then-code-eq-FLOAT.ensures c.float-x.ensures

pub definition-returns : goal.definition-returns
definition-returns t c = definition_none _ (definition_no c.if-code-eq-BOOLEAN.false c.if-code-eq-ENUM.false c.if-code-eq-STRING.false (sym c.is_integer.ensures ∙ c.if-is_integer.false) (sym c.is_type.ensures ∙ c.if-is_type.false) c.if-code-eq-FLOAT.false c.refuse-b.ensures) c.refuse-b.ensures

pub definitions-loop-under-init : goal.definitions-loop-under-init
definitions-loop-under-init t c = going tables definitions (Rows _)

pub definitions-definition-spot-requires : goal.definitions-definition-spot-requires
definitions-definition-spot-requires t c = (omega arith, tt)

pub definitions-loop-under-smaller : goal.definitions-loop-under-smaller
definitions-loop-under-smaller t c = definitions_less (sym c.is_definition.ensures ∙ c.loop-under-test.true) c.definition-spot.ensures.fills.meets

pub definitions-loop-under-preserved : goal.definitions-loop-under-preserved
definitions-loop-under-preserved t c = definitions_on _ c.loop-under.invariant (sym c.is_definition.ensures ∙ c.loop-under-test.true) c.definition-spot.ensures

pub definitions-shape_of-d : goal.definitions-shape_of-d
definitions-shape_of-d t c = c.loop-under.invariant.does.0.size

pub definitions-shape_of-e : goal.definitions-shape_of-e
definitions-shape_of-e t c = c.loop-under.invariant.does.1.size

pub definitions-returns : goal.definitions-returns
definitions-returns t c = definitions_gone _ c.loop-under.invariant (sym c.is_definition.ensures ∙ c.loop-under-test.false)

pub enumerator-parameters-c-requires : goal.enumerator-parameters-c-requires
enumerator-parameters-c-requires t c = (omega arith, tt)

pub enumerator-shape_of-d : goal.enumerator-shape_of-d
enumerator-shape_of-d t c = c.parameters-c.ensures.does.0.size

pub enumerator-returns : goal.enumerator-returns
enumerator-returns t c = enumerator_there c.args.list c.length-len.ensures c.put_row.ensures c.next-k.ensures c.expect_name-b.ensures c.parameters-c.ensures c.description-f.ensures

pub parameters-returns-then-a-ne-LBRACE : goal.parameters-returns-then-a-ne-LBRACE
parameters-returns-then-a-ne-LBRACE t c = parameters_none _ c.if-a-ne-LBRACE.true

pub parameters-definitions-c-requires : goal.parameters-definitions-c-requires
parameters-definitions-c-requires t c = let w = went_on 45 tt _ _ _ c.if-a-ne-LBRACE.false c.advance-b.ensures in (omega arith, tt)

pub parameters-shape_of-d : goal.parameters-shape_of-d
parameters-shape_of-d t c = c.definitions-c.ensures.does.0.size

pub parameters-shape_of-e : goal.parameters-shape_of-e
parameters-shape_of-e t c = c.definitions-c.ensures.does.1.size

pub parameters-returns : goal.parameters-returns
parameters-returns t c = parameters_there _ c.if-a-ne-LBRACE.false c.advance-b.ensures c.definitions-c.ensures (rbrace_is c.expect-f.ensures)
