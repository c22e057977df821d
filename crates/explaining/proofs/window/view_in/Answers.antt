-- `explaining::window::view_in` meets its contract: each part is what its function gives.
-- Assumes nothing.
use Rattle.explaining.proofs.Frames.{view_is}
use Rattle.explaining.proofs.window.view_in.Goals as goal

pub returns : goal.returns
returns c = view_is _ _ _ _ _ _ _ c.window_from-from.ensures c.window_to-to.ensures c.dots_for-front.ensures c.dots_for-behind.ensures
