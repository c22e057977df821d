use mathlib.Core.Path.{sym, ◌∙◌}
use Rattle.statement_causes.proofs.Telling.{owner_object, owner_value}
use Rattle.statement_causes.proofs.missing_at.Goals as goal

pub returns-in_default : goal.returns-in_default
returns-in_default c = owner_value _ _ _ _ _ _ c.args.places.now c.args.spot c.args.place c.missing_inside.result (sym c.find_row.ensures ∙ c.in_default.is) c.missing_inside.ensures

pub returns : goal.returns
returns c = owner_object _ _ _ _ _ _ c.args.places.now c.args.spot c.args.place c.missing_object.result _ (sym c.find_row.ensures ∙ c.in-Some.is) c.missing_object.ensures
