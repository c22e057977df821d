use Rattle.standard.proofs.Choosing.{other_key, its_key}
use mathlib.Core.Path.{sym, ◌∙◌}
use Rattle.standard.proofs.choices.is_extra.Goals as goal

pub returns-then-cell_of-key : goal.returns-then-cell_of-key
returns-then-cell_of-key c = other_key _ _ _ _ _ _ _ _ (λ h. c.if-cell_of-key.true (c.cell_of.ensures ∙ h))

pub returns : goal.returns
returns c = its_key _ _ _ _ _ _ _ _ _ _ _ _ (sym c.cell_of.ensures ∙ c.if-cell_of-key.false) c.cell_of-at.ensures c.cell_of-len.ensures c.part.ensures.bytes c.is_word.ensures
