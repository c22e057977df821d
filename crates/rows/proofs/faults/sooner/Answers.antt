-- `rows::faults::sooner` meets its contract.
-- Assumes nothing.
use Rattle.rows.specs.Order.{sooner as soonest-of}
use Rattle.rows.proofs.Orders.{sooner_second, sooner_first, none_sooner, sooner_none}
use mathlib.Core.Path.{sym, ap, ap₂, ◌∙◌}
use Rattle.rows.proofs.faults.sooner.Goals as goal

pub returns-then-comes_before : goal.returns-then-comes_before
returns-then-comes_before c = sym (ap₂ soonest-of c.in-Some-Some.is-0 c.in-Some-Some.is-1 ∙ sooner_second _ _ (sym c.comes_before.ensures ∙ c.if-comes_before.true))

pub returns-else-comes_before : goal.returns-else-comes_before
returns-else-comes_before c = sym (ap₂ soonest-of c.in-Some-Some.is-0 c.in-Some-Some.is-1 ∙ sooner_first _ _ (sym c.comes_before.ensures ∙ c.if-comes_before.false))

pub returns-in_default-None : goal.returns-in_default-None
returns-in_default-None c = sym (ap (soonest-of _) c.in_default-None.is-1 ∙ sooner_none _)

pub returns-in-None-default : goal.returns-in-None-default
returns-in-None-default c = sym (ap (λ f. soonest-of f c.args.b) c.in-None-default.is-0 ∙ none_sooner _)
