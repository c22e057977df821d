-- `comparing::values::same_word` meets its contract.
-- Assumes nothing.
-- src/values.rt:24:9
use Rattle.comparing.proofs.Countings.{name_of}
use mathlib.Core.Path.{◌∙◌, ap₂}
use Rattle.token.specs.Words.{same}
use Rattle.comparing.proofs.values.same_word.Goals as goal

-- src/values.rt:21:1
pub returns : goal.returns
returns c = c.same_bytes.ensures ∙ ap₂ same (name_of _ _ _ _ _ _ c.part.ensures.bytes c.cell_of-p.ensures c.cell_of-n.ensures) (name_of _ _ _ _ _ _ c.part-2.ensures.bytes c.cell_of-p2.ensures c.cell_of-n2.ensures)
