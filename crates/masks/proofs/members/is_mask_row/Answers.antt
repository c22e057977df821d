use Rattle.masks.proofs.Plannables.{under_other, other_type, a_list, by_name}
use Rattle.masks.proofs.members.is_mask_row.Goals as goal

pub returns-then-cell_of-place : goal.returns-then-cell_of-place
returns-then-cell_of-place c = under_other _ _ _ _ _ c.cell_of.ensures c.if-cell_of-place.true

pub returns-then-cell_of-ne-UINT64 : goal.returns-then-cell_of-ne-UINT64
returns-then-cell_of-ne-UINT64 c = other_type _ _ _ _ _ c.cell_of.ensures c.if-cell_of-place.false _ c.cell_of-2.ensures c.if-cell_of-ne-UINT64.true

pub returns-then-cell_of-ne0 : goal.returns-then-cell_of-ne0
returns-then-cell_of-ne0 c = a_list _ _ _ _ _ c.cell_of.ensures c.if-cell_of-place.false _ _ c.cell_of-2.ensures c.if-cell_of-ne-UINT64.false c.cell_of-3.ensures c.if-cell_of-ne0.true

pub returns : goal.returns
returns c = by_name _ _ _ _ _ c.cell_of.ensures c.if-cell_of-place.false _ _ _ _ _ _ c.cell_of-2.ensures c.if-cell_of-ne-UINT64.false c.cell_of-3.ensures c.if-cell_of-ne0.false c.cell_of-at.ensures c.cell_of-length.ensures c.part.ensures.bytes c.same_bytes.ensures
