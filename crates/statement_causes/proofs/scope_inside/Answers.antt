use mathlib.Core.Path.{subst}
use Rattle.scopes.specs.Promises.{FindsDefinition}
use Rattle.statement_causes.proofs.Seeking.{inner_none, inner_some}
use Rattle.statement_causes.proofs.scope_inside.Goals as goal

pub returns-in_default : goal.returns-in_default
returns-in_default c = inner_none _ _ _ _ _ _ _ c.cell_of-name.result c.cell_of-size.result c.cell_of-name.ensures c.cell_of-size.ensures (subst (λ r. FindsDefinition c.args.text.now c.args.d.now c.args.z.definitions c.args.key c.cell_of-name.result c.cell_of-size.result r) c.in_default.is c.find_definition.ensures)

pub returns : goal.returns
returns c = inner_some _ _ _ _ _ _ _ c.cell_of-name.result c.cell_of-size.result c.cell_of-name.ensures c.cell_of-size.ensures _ c.cell_of-at.result c.cell_of-len.result c.word_under.result (subst (λ r. FindsDefinition c.args.text.now c.args.d.now c.args.z.definitions c.args.key c.cell_of-name.result c.cell_of-size.result r) c.in-Some.is c.find_definition.ensures) c.cell_of-at.ensures c.cell_of-len.ensures c.word_under.ensures
