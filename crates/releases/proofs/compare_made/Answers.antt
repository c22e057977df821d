use Rattle.indexes.proofs.Throughs.{room_long}
use mathlib.Core.Path.{sym}
use Rattle.releases.proofs.compare_made.Goals as goal

pub slice_bounds-compare_named-end : goal.slice_bounds-compare_named-end
slice_bounds-compare_named-end c = room_long _ _ c.requires.1.0

pub slice_bounds-compare_named-end-2 : goal.slice_bounds-compare_named-end-2
slice_bounds-compare_named-end-2 c = room_long _ _ c.requires.1.1

pub compare_named-requires : goal.compare_named-requires
compare_named-requires c = (c.requires.0, (sym (room_long _ _ c.requires.1.0), sym (room_long _ _ c.requires.1.1)))

pub returns : goal.returns
returns c = c.compare_named.ensures
