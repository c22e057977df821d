use Rattle.dropping.proofs.Droppings.{alone_undefined, alone_again, alone_kept}
use Rattle.scopes.specs.Promises.{FindsDefinition}
use mathlib.Core.Path.{refl, subst}
use Rattle.dropping.proofs.drop_alone.Goals as goal

pub returns-in_default : goal.returns-in_default
returns-in_default c = alone_undefined _ _ _ _ _ _ _ _ _ _ c.cell_of-name.result c.cell_of-size.result c.cell_of-name.ensures c.cell_of-size.ensures _ _ (subst (λ r. FindsDefinition c.args.text.now c.args.d.now c.args.z.definitions c.args.key c.cell_of-name.result c.cell_of-size.result r) c.in_default.is c.find_definition.ensures) c.mark.ensures

pub returns-then-again : goal.returns-then-again
returns-then-again c = alone_again _ _ _ _ _ _ _ _ _ _ c.cell_of-name.result c.cell_of-size.result c.cell_of-name.ensures c.cell_of-size.ensures _ _ _ c.again.result (subst (λ r. FindsDefinition c.args.text.now c.args.d.now c.args.z.definitions c.args.key c.cell_of-name.result c.cell_of-size.result r) c.in-Some.is c.find_definition.ensures) c.again.ensures c.if-again.true c.mark-then-again.ensures

pub returns-else-again : goal.returns-else-again
returns-else-again c = alone_kept _ _ _ _ _ _ _ _ _ _ c.cell_of-name.result c.cell_of-size.result c.cell_of-name.ensures c.cell_of-size.ensures _ _ _ c.again.result (subst (λ r. FindsDefinition c.args.text.now c.args.d.now c.args.z.definitions c.args.key c.cell_of-name.result c.cell_of-size.result r) c.in-Some.is c.find_definition.ensures) c.again.ensures c.if-again.false refl
