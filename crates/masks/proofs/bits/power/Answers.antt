use Rattle.masks.proofs.Looping.{shifted}
use Rattle.masks.proofs.bits.power.Goals as goal

pub returns : goal.returns
returns c = shifted _ c.requires
