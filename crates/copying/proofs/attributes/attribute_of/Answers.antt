use Rattle.rows.specs.Search.{row_of}
use Rattle.copying.specs.Copies.{attribute_of}
use mathlib.Core.Path.{sym, ◌∙◌, ap}
use Rattle.copying.proofs.attributes.attribute_of.Goals as goal

pub returns-in_default : goal.returns-in_default
unfolding row_of attribute_of
returns-in_default c = ap row_of (sym c.in_default.is ∙ c.find_row.ensures)

pub returns : goal.returns
unfolding row_of attribute_of
returns c = ap row_of (sym c.in-Some.is ∙ c.find_row.ensures)
