-- `judging::values::value_fault` meets its contract.
-- Assumes nothing.
use Rattle.judging.proofs.Judgements.{value_none, value_reference, value_other}
use Rattle.rows.specs.Order.{sooner as sooner-of}
use mathlib.Core.Path.{◌∙◌, ap}
use native.Mathlib.Omega.{arith}
use Rattle.judging.proofs.values.value_fault.Goals as goal

pub returns-then-kind-lt-FIRST_TYPE : goal.returns-then-kind-lt-FIRST_TYPE
returns-then-kind-lt-FIRST_TYPE c = λ f x y a. absurd (value_none a c.cell_of-kind.result c.cell_of-kind.ensures c.if-kind-lt-FIRST_TYPE.true)

pub reference_fault-a-requires : goal.reference_fault-a-requires
reference_fault-a-requires c = c.requires.1.objects

pub returns-then-kind-lt-UINT32 : goal.returns-then-kind-lt-UINT32
returns-then-kind-lt-UINT32 c = λ f x y a. c.sooner.ensures ∙ ap (sooner-of c.reference_fault-a.result) c.fault_if-b.ensures ∙ value_reference a c.cell_of-kind.result c.cell_of-at.result c.cell_of-len.result c.cell_of-code.result c.cell_of-brace.result c.reference_fault-a.result c.cell_of-kind.ensures (omega arith) c.if-kind-lt-UINT32.true c.cell_of-at.ensures c.cell_of-len.ensures c.cell_of-code.ensures c.cell_of-brace.ensures c.reference_fault-a.ensures

pub takes-requires : goal.takes-requires
takes-requires c = c.requires.0

pub returns : goal.returns
returns c = λ f x y a. c.fault_if.ensures ∙ value_other a c.cell_of-kind.result c.cell_of-at.result c.cell_of-code.result _ c.takes.result c.cell_of-kind.ensures c.if-kind-lt-UINT32.false c.cell_of-at.ensures c.cell_of-code.ensures c.requires.2 c.takes.ensures
