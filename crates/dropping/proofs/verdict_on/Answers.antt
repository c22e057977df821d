use Rattle.dropping.proofs.Droppings.{verdict_undefined, verdict_again, verdict_value, verdict_none}
use Rattle.judging.proofs.Judgements.{under_at}
use Rattle.scopes.specs.Promises.{FindsDefinition}
use mathlib.Core.Path.{subst}
use Rattle.dropping.proofs.verdict_on.Goals as goal

pub returns-in_default : goal.returns-in_default
returns-in_default c = verdict_undefined _ _ _ _ _ _ _ _ _ _ c.cell_of-name.result c.cell_of-size.result c.cell_of-name.ensures c.cell_of-size.ensures (subst (λ r. FindsDefinition c.args.text.now c.args.d.now c.args.z.definitions c.args.key c.cell_of-name.result c.cell_of-size.result r) c.in_default.is c.find_definition.ensures)

pub returns-then-again : goal.returns-then-again
returns-then-again c = verdict_again _ _ _ _ _ _ _ _ _ _ c.cell_of-name.result c.cell_of-size.result c.cell_of-name.ensures c.cell_of-size.ensures _ c.again.result (subst (λ r. FindsDefinition c.args.text.now c.args.d.now c.args.z.definitions c.args.key c.cell_of-name.result c.cell_of-size.result r) c.in-Some.is c.find_definition.ensures) c.again.ensures c.if-again.true

pub word_under-under-requires : goal.word_under-under-requires
word_under-under-requires c = c.requires.0.named.enumerators

pub value_fault-requires : goal.value_fault-requires
value_fault-requires c = (c.requires.0.known, c.requires.0.named, under_at _ _ _ c.args.st.now _ _ c.args.k _ _ _ c.cell_of-at.ensures c.cell_of-len.ensures c.word_under-under.ensures)

pub returns-in-Some-value_fault : goal.returns-in-Some-value_fault
returns-in-Some-value_fault c = verdict_value _ _ _ _ _ _ _ _ _ _ c.cell_of-name.result c.cell_of-size.result c.cell_of-name.ensures c.cell_of-size.ensures _ c.cell_of-at.result c.cell_of-len.result c.word_under-under.result c.again.result c.value_fault.result (subst (λ r. FindsDefinition c.args.text.now c.args.d.now c.args.z.definitions c.args.key c.cell_of-name.result c.cell_of-size.result r) c.in-Some.is c.find_definition.ensures) c.again.ensures c.if-again.false c.cell_of-at.ensures c.cell_of-len.ensures c.word_under-under.ensures c.value_fault.ensures _ c.in-Some-value_fault.is

pub returns-in-None : goal.returns-in-None
returns-in-None c = verdict_none _ _ _ _ _ _ _ _ _ _ c.cell_of-name.result c.cell_of-size.result c.cell_of-name.ensures c.cell_of-size.ensures _ c.cell_of-at.result c.cell_of-len.result c.word_under-under.result c.again.result c.value_fault.result (subst (λ r. FindsDefinition c.args.text.now c.args.d.now c.args.z.definitions c.args.key c.cell_of-name.result c.cell_of-size.result r) c.in-Some.is c.find_definition.ensures) c.again.ensures c.if-again.false c.cell_of-at.ensures c.cell_of-len.ensures c.word_under-under.ensures c.value_fault.ensures c.in-None.is
