use mathlib.Core.Path.{◌∙◌}
use Rattle.defining_checks.proofs.Turns.{too_many_is}
use Rattle.defining_checks.proofs.one_too_many.Goals as goal

pub returns : goal.returns
returns c = c.then_some.ensures ∙ too_many_is _ _ _ c.cell_of.ensures
