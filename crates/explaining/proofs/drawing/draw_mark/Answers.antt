use Rattle.explaining.proofs.Stores.{mark_written, mark_end, marked_is}
use Rattle.explaining.proofs.drawing.draw_mark.Goals as goal

pub returns : goal.returns
returns c = let n = marked_is _ _ (c.requires.fits) _ _ _ c.min-last.ensures c.saturating_sub-more.ensures in record { out_after = mark_written _ _ (c.requires.fits) _ _ _ _ _ _ _ _ _ _ n c.part.ensures.bytes c.put_dots.ensures c.put.ensures c.put_byte.ensures c.put-2.ensures c.put_byte-2.ensures; value = mark_end _ _ (c.requires.fits) _ _ _ n }
