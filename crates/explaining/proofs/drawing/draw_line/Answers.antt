-- `explaining::drawing::draw_line` meets its contract: its four runs are the line shown.
-- Assumes nothing.
use Rattle.explaining.proofs.Stores.{line_written, line_long}
use Rattle.explaining.proofs.drawing.draw_line.Goals as goal

pub returns : goal.returns
returns c = record { out_after = line_written _ _ c.requires _ _ _ _ _ c.put_dots.ensures c.put.ensures c.put_dots-2.ensures c.put_byte.ensures; value = line_long _ _ c.requires }
