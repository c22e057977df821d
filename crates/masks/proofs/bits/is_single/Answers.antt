use mathlib.Core.Path.{◌∙◌}
use Rattle.masks.proofs.Counts.{single_is}
use Rattle.masks.proofs.bits.is_single.Goals as goal

pub returns : goal.returns
returns c = c.is_power_of_two.ensures ∙ single_is _ c.ranges.m.fits
