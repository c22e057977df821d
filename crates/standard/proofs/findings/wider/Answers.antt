use mathlib.Core.Path.{refl}
use Rattle.standard.proofs.Widening.{of_enum, no_list, a_list, unrestricted, restricted_to}
use Rattle.standard.proofs.findings.wider.Goals as goal

pub returns-then-code-eq-ENUM : goal.returns-then-code-eq-ENUM
returns-then-code-eq-ENUM c = of_enum _ _ _ _ _ _ _ _ _ _ _ _ _ c.cell_of-code.ensures c.cell_of-first.ensures c.cell_of-end.ensures c.cell_of-key.ensures c.if-code-eq-ENUM.true _ c.has_extra.ensures

pub returns-then-first-end : goal.returns-then-first-end
returns-then-first-end c = no_list _ _ _ _ _ _ _ _ _ _ _ _ _ c.cell_of-code.ensures c.cell_of-first.ensures c.cell_of-end.ensures c.cell_of-key.ensures c.if-code-eq-ENUM.false c.if-code-eq-BOOLEAN.true c.if-first-end.true

pub returns-then-code-eq-BOOLEAN : goal.returns-then-code-eq-BOOLEAN
returns-then-code-eq-BOOLEAN c = a_list _ _ _ _ _ _ _ _ _ _ _ _ _ c.cell_of-code.ensures c.cell_of-first.ensures c.cell_of-end.ensures c.cell_of-key.ensures c.if-code-eq-ENUM.false c.if-code-eq-BOOLEAN.true c.if-first-end.false _ refl

pub returns-then-cell_of-eq0 : goal.returns-then-cell_of-eq0
returns-then-cell_of-eq0 c = unrestricted _ _ _ _ _ _ _ _ _ _ _ _ _ c.cell_of-code.ensures c.cell_of-first.ensures c.cell_of-end.ensures c.cell_of-key.ensures c.if-code-eq-ENUM.false c.if-code-eq-BOOLEAN.false _ c.cell_of.ensures c.if-cell_of-eq0.true

pub returns : goal.returns
returns c = restricted_to _ _ _ _ _ _ _ _ _ _ _ _ _ c.cell_of-code.ensures c.cell_of-first.ensures c.cell_of-end.ensures c.cell_of-key.ensures c.if-code-eq-ENUM.false c.if-code-eq-BOOLEAN.false _ c.cell_of.ensures c.if-cell_of-eq0.false _ _ c.cell_of-2.ensures c.within_one_two.ensures
