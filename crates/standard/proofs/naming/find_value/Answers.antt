use mathlib.Core.Path.{◌∙◌}
use Rattle.standard.proofs.Valued.{finds_value, of_boolean, of_other, of_enum, word_at, no_word}
use Rattle.standard.proofs.naming.find_value.Goals as goal

pub returns-then-code-eq-BOOLEAN : goal.returns-then-code-eq-BOOLEAN
returns-then-code-eq-BOOLEAN c = finds_value _ _ _ _ _ _ _ (c.truth_named.ensures ∙ of_boolean _ _ _ _ _ _ _ c.cell_of-code.ensures c.if-code-eq-BOOLEAN.true)

pub returns-then-code-ne-ENUM : goal.returns-then-code-ne-ENUM
returns-then-code-ne-ENUM c = finds_value _ _ _ _ _ _ _ (of_other _ _ _ _ _ _ _ c.cell_of-code.ensures c.if-code-eq-BOOLEAN.false c.if-code-ne-ENUM.true)

pub returns-in_default : goal.returns-in_default
returns-in_default c =
    finds_value _ _ _ _ _ _ _
    (no_word _ _ c.in_default.is ∙ of_enum _ _ _ _ _ _ _ _ c.cell_of-code.ensures c.if-code-ne-ENUM.false c.cell_of-key.ensures _ c.find_choice.ensures)

pub returns : goal.returns
returns c =
    finds_value _ _ _ _ _ _ _
    (word_at _ _ _ _ c.in-Some.is c.cell_of.ensures ∙ of_enum _ _ _ _ _ _ _ _ c.cell_of-code.ensures c.if-code-ne-ENUM.false c.cell_of-key.ensures _ c.find_choice.ensures)
