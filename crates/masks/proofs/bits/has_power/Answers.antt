use Rattle.masks.proofs.Looping.{power_is}
use Rattle.masks.proofs.bits.has_power.Goals as goal

pub returns : goal.returns
returns c = power_is _ _
