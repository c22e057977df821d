use Rattle.attribute_values.proofs.Reading.{other_kind, of_kind}
use Rattle.attribute_values.proofs.objects.is_called.Goals as goal

pub returns-then-not-same_bytes : goal.returns-then-not-same_bytes
returns-then-not-same_bytes c = other_kind _ _ _ _ _ _ _ _ _ c.cell_of-word.ensures c.cell_of-size.ensures c.part.ensures.bytes c.same_bytes.ensures c.if-not-same_bytes.true

pub returns : goal.returns
returns c = of_kind _ _ _ _ _ _ _ _ _ c.cell_of-word.ensures c.cell_of-size.ensures c.part.ensures.bytes c.same_bytes.ensures c.if-not-same_bytes.false _ _ _ _ c.cell_of-place.ensures c.cell_of-length.ensures c.part-2.ensures.bytes c.same_bytes-2.ensures
