use Rattle.attribute_values.proofs.Reading.{mark_written, mark_same}
use mathlib.Core.Path.{◌∙◌}
use Rattle.attribute_values.proofs.paths.is_mark.Goals as goal

pub returns : goal.returns
returns c = mark_same _ _ _ _ c.same_bytes.ensures (c.part.ensures.bytes ∙ mark_written _ c.put_bytes-a.ensures c.put_decimal-b.ensures c.put_bytes-e.ensures)
