use Rattle.masks.proofs.Looping.{event_is}
use Rattle.masks.proofs.marks.has_event.Goals as goal

pub returns : goal.returns
returns c = event_is _ _ _ _ _ _ _ c.get-x.ensures c.row_start-start.ensures c.is_marked.ensures
