-- `comparing::values::same_value` meets its contract.
-- Assumes nothing.
use mathlib.Core.Path.{sym, ◌∙◌}
use Rattle.comparing.proofs.Countings.{sorts_differ, signs_differ, number_keys, truth_keys, auto_keys, reference_keys, float_keys, word_keys}
use Rattle.comparing.proofs.values.same_value.Goals as goal

pub returns-then-not-same_cell : goal.returns-then-not-same_cell
returns-then-not-same_cell c = sorts_differ _ _ _ _ _ _ _ _ (sym c.same_cell.ensures ∙ c.if-not-same_cell.true)

pub returns-then-not-same_cell-2 : goal.returns-then-not-same_cell-2
returns-then-not-same_cell-2 c = signs_differ _ _ _ _ _ _ _ _ (sym c.same_cell.ensures ∙ c.if-not-same_cell.false) (sym c.cell_of-sort.ensures ∙ c.if-sort-eq-NUMBER.true) (sym c.same_cell-then-sort-eq-NUMBER.ensures ∙ c.if-not-same_cell-2.true)

pub returns-then-sort-eq-NUMBER : goal.returns-then-sort-eq-NUMBER
returns-then-sort-eq-NUMBER c = number_keys _ _ _ _ _ _ _ _ _ (sym c.same_cell.ensures ∙ c.if-not-same_cell.false) (sym c.cell_of-sort.ensures ∙ c.if-sort-eq-NUMBER.true) (sym c.same_cell-then-sort-eq-NUMBER.ensures ∙ c.if-not-same_cell-2.false) c.same_cell-then-sort-eq-NUMBER-2.ensures

pub returns-then-sort-eq-TRUTH : goal.returns-then-sort-eq-TRUTH
returns-then-sort-eq-TRUTH c = truth_keys _ _ _ _ _ _ _ _ _ (sym c.same_cell.ensures ∙ c.if-not-same_cell.false) (sym c.cell_of-sort.ensures ∙ c.if-sort-eq-TRUTH.true) c.same_cell-then-sort-eq-TRUTH.ensures

pub returns-then-sort-eq-AUTO : goal.returns-then-sort-eq-AUTO
returns-then-sort-eq-AUTO c = auto_keys _ _ _ _ _ _ _ _ (sym c.same_cell.ensures ∙ c.if-not-same_cell.false) (sym c.cell_of-sort.ensures ∙ c.if-sort-eq-AUTO.true)

pub returns-then-sort-eq-OBJECT : goal.returns-then-sort-eq-OBJECT
returns-then-sort-eq-OBJECT c = reference_keys _ _ _ _ _ _ _ _ _ (sym c.same_cell.ensures ∙ c.if-not-same_cell.false) (sym c.cell_of-sort.ensures ∙ c.if-sort-eq-OBJECT.true) c.same_reference.ensures

pub returns-then-sort-eq-FLOAT : goal.returns-then-sort-eq-FLOAT
returns-then-sort-eq-FLOAT c = float_keys _ _ _ _ _ _ _ _ _ (sym c.same_cell.ensures ∙ c.if-not-same_cell.false) (sym c.cell_of-sort.ensures ∙ c.if-sort-eq-FLOAT.true) c.same_float.ensures

pub returns : goal.returns
returns c = word_keys _ _ _ _ _ _ _ _ _ (sym c.same_cell.ensures ∙ c.if-not-same_cell.false) (λ z. c.if-sort-eq-NUMBER.false (c.cell_of-sort.ensures ∙ z)) (λ z. c.if-sort-eq-TRUTH.false (c.cell_of-sort.ensures ∙ z)) (λ z. c.if-sort-eq-AUTO.false (c.cell_of-sort.ensures ∙ z)) (λ z. c.if-sort-eq-OBJECT.false (c.cell_of-sort.ensures ∙ z)) (λ z. c.if-sort-eq-FLOAT.false (c.cell_of-sort.ensures ∙ z)) c.same_word.ensures
