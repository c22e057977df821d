use mathlib.Core.Path.{◌∙◌}
use mathlib.Core.Bool.{true, false}
use Rattle.standard.proofs.Valued.{true_named, false_named, part_same}
use Rattle.standard.proofs.naming.truth_named.Goals as goal

pub returns-then-same_bytes : goal.returns-then-same_bytes
returns-then-same_bytes c = true_named _ _ _ _ _ _ c.cell_of-first.ensures c.cell_of-size.ensures (part_same _ c.part.ensures.bytes c.same_bytes.ensures ∙ c.if-same_bytes.true)

pub returns-then-same_bytes-2 : goal.returns-then-same_bytes-2
returns-then-same_bytes-2 c =
    false_named _ _ _ _ _ _ _ _ c.cell_of-first.ensures c.cell_of-size.ensures c.cell_of-second.ensures c.cell_of-size2.ensures
    (part_same _ c.part.ensures.bytes c.same_bytes.ensures ∙ c.if-same_bytes.false) true (part_same _ c.part-2.ensures.bytes c.same_bytes-2.ensures ∙ c.if-same_bytes-2.true)

pub returns : goal.returns
returns c =
    false_named _ _ _ _ _ _ _ _ c.cell_of-first.ensures c.cell_of-size.ensures c.cell_of-second.ensures c.cell_of-size2.ensures
    (part_same _ c.part.ensures.bytes c.same_bytes.ensures ∙ c.if-same_bytes.false) false (part_same _ c.part-2.ensures.bytes c.same_bytes-2.ensures ∙ c.if-same_bytes-2.false)
