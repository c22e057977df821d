use mathlib.Core.Path.{◌∙◌}
use Rattle.standard.proofs.Named.{of_attributes, finds_attribute}
use Rattle.standard.proofs.naming.find_attribute.Goals as goal

pub returns : goal.returns
returns c = finds_attribute _ _ _ _ _ _ (c.find_named.ensures ∙ of_attributes _ _ _ _ _)
