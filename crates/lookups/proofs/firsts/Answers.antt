use Rattle.lookups.proofs.Blocks.{firsts_none}
use Rattle.lookups.proofs.firsts.Goals as goal

pub fill_firsts-requires : goal.fill_firsts-requires
fill_firsts-requires g c = firsts_none _ _ _ _ _
