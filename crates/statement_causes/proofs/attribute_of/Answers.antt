use mathlib.Core.Path.{refl, subst}
use Rattle.scopes.specs.Promises.{FindsDefinition}
use Rattle.statement_causes.proofs.Seeking.{turned_true, turned_false}
use Rattle.statement_causes.proofs.Telling.{attribute_none, attribute_undefined, attribute_defined}
use Rattle.statement_causes.proofs.attribute_of.Goals as goal

pub returns-then-not-spot : goal.returns-then-not-spot
returns-then-not-spot c = attribute_none _ _ _ _ _ c.args.spot _ (turned_true _ c.if-not-spot.true) refl

pub returns-in_default : goal.returns-in_default
returns-in_default c = attribute_undefined _ _ _ _ _ c.args.spot _ (turned_false _ c.if-not-spot.false) c.cell_of-name.result c.cell_of-size.result c.cell_of-name.ensures c.cell_of-size.ensures (subst (λ r. FindsDefinition c.args.text.now c.args.d.now c.args.z.definitions c.args.spot.key c.cell_of-name.result c.cell_of-size.result r) c.in_default.is c.find_definition.ensures) refl

pub returns : goal.returns
returns c = attribute_defined _ _ _ _ _ c.args.spot _ (turned_false _ c.if-not-spot.false) c.cell_of-name.result c.cell_of-size.result c.cell_of-name.ensures c.cell_of-size.ensures _ (subst (λ r. FindsDefinition c.args.text.now c.args.d.now c.args.z.definitions c.args.spot.key c.cell_of-name.result c.cell_of-size.result r) c.in-Some.is c.find_definition.ensures) c.attribute_row.ensures
