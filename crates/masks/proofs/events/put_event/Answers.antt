use Rattle.masks.proofs.Storing.{put_no, put_yes}
use Rattle.masks.proofs.events.put_event.Goals as goal

pub returns-then-cell_of-ne-EVENT : goal.returns-then-cell_of-ne-EVENT
returns-then-cell_of-ne-EVENT c = put_no _ _ _ _ _ c.cell_of.ensures c.if-cell_of-ne-EVENT.true

pub returns : goal.returns
returns c = put_yes _ _ _ _ _ _ c.cell_of.ensures c.if-cell_of-ne-EVENT.false c.put_cells.ensures
