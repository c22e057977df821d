-- `judging::values::reference_fault` meets its contract.
-- Assumes nothing.
use Rattle.judging.proofs.Judgements.{reference_no_name, reference_nothing, reference_object}
use Rattle.scopes.specs.Promises.{FindsObject}
use mathlib.Core.Path.{sym, ◌∙◌, subst}
use Rattle.judging.proofs.values.reference_fault.Goals as goal

pub returns-then-not-is_name : goal.returns-then-not-is_name
returns-then-not-is_name c = reference_no_name _ _ _ _ _ _ c.args.code (sym c.is_name.ensures ∙ c.if-not-is_name.true)

pub returns-in_default : goal.returns-in_default
returns-in_default c = reference_nothing _ _ _ _ _ _ c.args.code (sym c.is_name.ensures ∙ c.if-not-is_name.false) (subst (λ r. FindsObject c.args.text.now c.args.o.now c.args.objects c.args.kind c.args.at c.args.len r) c.in_default.is c.find_object.ensures)

pub returns : goal.returns
returns c = reference_object _ _ _ _ _ _ c.args.code _ (sym c.is_name.ensures ∙ c.if-not-is_name.false) (subst (λ r. FindsObject c.args.text.now c.args.o.now c.args.objects c.args.kind c.args.at c.args.len r) c.in-Some.is c.find_object.ensures)
