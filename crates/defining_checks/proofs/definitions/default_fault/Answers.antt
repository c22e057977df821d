use Rattle.defining_checks.proofs.Defaulting.{default_none, default_late, default_unset, default_auto, default_other}
use Rattle.defining_checks.proofs.definitions.default_fault.Goals as goal

pub returns-then-at-eq0 : goal.returns-then-at-eq0
returns-then-at-eq0 c = default_none _ _ _ _ _ _ _ _ c.cell_of-at.ensures c.if-at-eq0.true

pub returns-then-is_late : goal.returns-then-is_late
returns-then-is_late c = default_late _ _ _ _ _ _ _ _ c.cell_of-at.ensures _ c.is_late.ensures c.if-is_late.true

pub returns-then-code-eq-NO_DEFAULT : goal.returns-then-code-eq-NO_DEFAULT
returns-then-code-eq-NO_DEFAULT c = default_unset _ _ _ _ _ _ _ _ c.cell_of-at.ensures c.if-at-eq0.false _ c.is_late.ensures c.if-is_late.false _ _ c.cell_of-len.ensures c.cell_of-code.ensures c.if-code-eq-NO_DEFAULT.true

pub returns-then-code-eq-AUTO : goal.returns-then-code-eq-AUTO
returns-then-code-eq-AUTO c = default_auto _ _ _ _ _ _ _ _ c.cell_of-at.ensures c.if-at-eq0.false _ c.is_late.ensures c.if-is_late.false _ _ c.cell_of-len.ensures c.cell_of-code.ensures _ _ _ c.if-code-eq-NO_DEFAULT.false c.if-code-eq-AUTO.true c.word_under-under.ensures c.takes-taken.ensures c.fault_if.ensures

pub returns : goal.returns
returns c = default_other _ _ _ _ _ _ _ _ c.cell_of-at.ensures c.if-at-eq0.false _ c.is_late.ensures c.if-is_late.false _ _ c.cell_of-len.ensures c.cell_of-code.ensures _ _ _ c.if-code-eq-NO_DEFAULT.false c.if-code-eq-AUTO.false c.word_under-under.ensures c.takes-taken.ensures c.fault_if-2.ensures
