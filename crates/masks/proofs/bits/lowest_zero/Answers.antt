use mathlib.Core.Path.{◌∙◌}
use Rattle.masks.proofs.Counts.{lowest_is}
use Rattle.masks.proofs.bits.lowest_zero.Goals as goal

pub returns : goal.returns
returns c = c.trailing_ones.ensures ∙ lowest_is _ c.ranges.m.fits
