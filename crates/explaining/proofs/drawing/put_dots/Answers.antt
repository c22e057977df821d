-- `explaining::drawing::put_dots` meets its contract: it stores a front part of three dots.
-- Assumes nothing.
use Rattle.explaining.specs.Pictures.{dots}
use Rattle.explaining.proofs.drawing.put_dots.Goals as goal

pub returns : goal.returns
unfolding dots
returns c = c.put.ensures
