use mathlib.Core.Path.{sym, ◌∙◌}
use Rattle.causes.proofs.Rows.{like_none, like_first, like_found}
use Rattle.causes.proofs.first_like.Goals as goal

pub returns-in_default : goal.returns-in_default
returns-in_default c = like_none _ _ _ _ _ _ _ (sym c.find_row.ensures ∙ c.in_default.is)

pub returns-in_default-find_named : goal.returns-in_default-find_named
returns-in_default-find_named c = like_first _ _ _ _ _ _ _ _ _ _ _ (sym c.find_row.ensures ∙ c.in-Some.is) c.cell_of-key.ensures c.place_after-second.ensures c.cell_of-len.ensures (sym c.find_named.ensures ∙ c.in_default-find_named.is)

pub returns : goal.returns
returns c = like_found _ _ _ _ _ _ _ _ _ _ _ (sym c.find_row.ensures ∙ c.in-Some.is) c.cell_of-key.ensures c.place_after-second.ensures c.cell_of-len.ensures _ _ (sym c.find_named.ensures ∙ c.in-Some-find_named.is) c.cell_of.ensures
