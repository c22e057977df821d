use Rattle.masks.proofs.Storing.{mask_inner, mask_of_other, mask_named}
use Rattle.masks.proofs.events.is_mask.Goals as goal

pub returns-then-cell_of-ne-OF_OBJECT : goal.returns-then-cell_of-ne-OF_OBJECT
returns-then-cell_of-ne-OF_OBJECT c = mask_inner _ _ _ _ _ _ c.cell_of.ensures c.if-cell_of-ne-OF_OBJECT.true

pub returns-then-cell_of-row : goal.returns-then-cell_of-row
returns-then-cell_of-row c = mask_of_other _ _ _ _ _ _ c.cell_of.ensures _ c.if-cell_of-ne-OF_OBJECT.false c.cell_of-2.ensures c.if-cell_of-row.true

pub returns : goal.returns
returns c = mask_named _ _ _ _ _ _ c.cell_of.ensures _ _ _ _ _ _ c.if-cell_of-ne-OF_OBJECT.false c.cell_of-2.ensures c.if-cell_of-row.false c.cell_of-j.ensures c.cell_of-place.ensures c.cell_of-length.ensures c.part.ensures.bytes c.same_bytes.ensures
