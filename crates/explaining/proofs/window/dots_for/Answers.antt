-- `explaining::window::dots_for` meets its contract: the test tells whether bytes are cut.
-- Assumes nothing.
use Rattle.explaining.proofs.Frames.{dots_three, dots_none}
use Rattle.explaining.proofs.window.dots_for.Goals as goal

pub returns-then-a-b : goal.returns-then-a-b
returns-then-a-b c = dots_three _ _ c.if-a-b.true

pub returns : goal.returns
returns c = dots_none _ _ c.if-a-b.false
