-- `lookups::word_under` meets its contract.
-- Assumes nothing.
use Rattle.lookups.proofs.Rows.{truth_indexed, nothing_indexed, none-indexed, word-indexed}
use Rattle.lookups.proofs.word_under.Goals as goal

pub returns-then-code-eq-BOOLEAN : goal.returns-then-code-eq-BOOLEAN
returns-then-code-eq-BOOLEAN c = truth_indexed _ _ _ _ _ _ _ _ c.cell_of-code.ensures _ c.if-code-eq-BOOLEAN.true c.truth_under.ensures

pub returns-then-code-ne-ENUM : goal.returns-then-code-ne-ENUM
returns-then-code-ne-ENUM c = nothing_indexed _ _ _ _ _ _ _ _ c.cell_of-code.ensures c.if-code-eq-BOOLEAN.false c.if-code-ne-ENUM.true

pub returns-in_default : goal.returns-in_default
returns-in_default c = none-indexed _ _ _ _ _ _ _ _ c.cell_of-code.ensures c.if-code-ne-ENUM.false _ c.find_enumerator.ensures c.in_default.is

pub returns : goal.returns
returns c = word-indexed _ _ _ _ _ _ _ _ c.cell_of-code.ensures c.if-code-ne-ENUM.false _ c.find_enumerator.ensures _ _ c.in-Some.is c.cell_of.ensures
