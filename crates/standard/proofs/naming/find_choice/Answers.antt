use mathlib.Core.Path.{◌∙◌}
use Rattle.standard.proofs.Valued.{of_choices}
use Rattle.standard.proofs.naming.find_choice.Goals as goal

pub returns : goal.returns
returns c = c.find_named.ensures ∙ of_choices _ _ _ _ _
