use Rattle.explaining.proofs.Told.{inside_is, fits_is, short_is, told}
use Rattle.explaining.proofs.explain.Goals as goal

pub line_of-line-requires : goal.line_of-line-requires
line_of-line-requires c = inside_is _ _ _ c.inside-at.ensures

pub column_of-column-requires : goal.column_of-column-requires
column_of-column-requires c = inside_is _ _ _ c.inside-at.ensures

pub token_end-end-requires : goal.token_end-end-requires
token_end-end-requires c = inside_is _ _ _ c.inside-at.ensures

pub view_of-view-requires : goal.view_of-view-requires
view_of-view-requires c = inside_is _ _ _ c.inside-at.ensures

pub draw_line-shown-requires : goal.draw_line-shown-requires
draw_line-shown-requires c = fits_is _ _ _ _ c.inside-at.ensures c.view_of-view.ensures

pub draw_mark-len-requires : goal.draw_mark-len-requires
draw_mark-len-requires c = let f = fits_is _ _ _ _ c.inside-at.ensures c.view_of-view.ensures in record { fits = f; start_bound = short_is _ _ _ f c.draw_line-shown.ensures.value }

pub returns : goal.returns
returns c = told _ _ _ _ _ _ _ _ _ _ _ _ c.inside-at.ensures c.line_of-line.ensures c.column_of-column.ensures c.token_end-end.ensures c.view_of-view.ensures c.draw_line-shown.ensures.out_after c.draw_line-shown.ensures.value c.draw_mark-len.ensures.out_after c.draw_mark-len.ensures.value
