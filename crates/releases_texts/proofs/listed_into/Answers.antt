use mathlib.Core.Path.{sym}
use lib.Seq.{length-take-le}
use Rattle.lent_texts.proofs.Told.{inside}
use Rattle.releases_texts.proofs.Told.{stopped_first, stopped_second, both_there}
use Rattle.releases_texts.proofs.listed_into.Goals as goal

pub slice_bounds-first_or-end : goal.slice_bounds-first_or-end
slice_bounds-first_or-end c = inside c.expand-one.ensures c.in-Ok.is

pub slice_bounds-first_or-end-in-Err-two : goal.slice_bounds-first_or-end-in-Err-two
slice_bounds-first_or-end-in-Err-two c = sym (length-take-le _ _ (inside c.expand-one.ensures c.in-Ok.is))

pub slice_bounds-listed_expanded-end : goal.slice_bounds-listed_expanded-end
slice_bounds-listed_expanded-end c = inside c.expand-one.ensures c.in-Ok.is

pub slice_bounds-listed_expanded-end-in-Ok-two : goal.slice_bounds-listed_expanded-end-in-Ok-two
slice_bounds-listed_expanded-end-in-Ok-two c = sym (length-take-le _ _ (inside c.expand-one.ensures c.in-Ok.is))

pub slice_bounds-listed_expanded-end-in-Ok-two-2 : goal.slice_bounds-listed_expanded-end-in-Ok-two-2
slice_bounds-listed_expanded-end-in-Ok-two-2 c = inside c.expand-two.ensures c.in-Ok-two.is

pub slice_bounds-listed_expanded-end-in-Ok-two-3 : goal.slice_bounds-listed_expanded-end-in-Ok-two-3
slice_bounds-listed_expanded-end-in-Ok-two-3 c = sym (length-take-le _ _ (inside c.expand-two.ensures c.in-Ok-two.is))

pub listed_expanded-requires : goal.listed_expanded-requires
listed_expanded-requires c = c.requires

pub returns-in-Err : goal.returns-in-Err
returns-in-Err c = stopped_first c.expand-one.ensures c.expand-two.ensures _ c.in-Err.is c.stopped.ensures

pub returns-in-Err-two : goal.returns-in-Err-two
returns-in-Err-two c = stopped_second c.expand-one.ensures c.expand-two.ensures _ c.in-Ok.is c.in-Err-two.is c.first_or.ensures

pub shape_of-expanded-in-Ok-two : goal.shape_of-expanded-in-Ok-two
shape_of-expanded-in-Ok-two c = c.expand-one.auto.expanded

pub shape_of-origins-in-Ok-two : goal.shape_of-origins-in-Ok-two
shape_of-origins-in-Ok-two c = c.expand-one.auto.origins

pub shape_of-second_expanded-in-Ok-two : goal.shape_of-second_expanded-in-Ok-two
shape_of-second_expanded-in-Ok-two c = c.expand-two.auto.expanded

pub shape_of-second_origins-in-Ok-two : goal.shape_of-second_origins-in-Ok-two
shape_of-second_origins-in-Ok-two c = c.expand-two.auto.origins

pub returns-in-Ok-two : goal.returns-in-Ok-two
returns-in-Ok-two c = both_there c.expand-one.ensures c.expand-two.ensures c.in-Ok.is c.in-Ok-two.is c.listed_expanded.ensures
