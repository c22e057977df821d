-- `explaining::window::view_of` meets its contract: it is the view in the place's line.
-- Assumes nothing.
use Rattle.explaining.proofs.Frames.{view_is_of}
use Rattle.explaining.proofs.window.view_of.Goals as goal

pub returns : goal.returns
returns c = view_is_of _ _ _ _ _ _ c.line_start-start.ensures c.line_end-stop.ensures c.shown_end-end.ensures c.view_in.ensures
