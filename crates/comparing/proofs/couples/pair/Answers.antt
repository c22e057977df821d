-- `comparing::couples::pair` meets its contract.
-- Assumes nothing.
use Rattle.comparing.proofs.Lined.{paired, coupled_kept, bounded_steps}
use Rattle.comparing.proofs.couples.pair.Goals as goal

pub couple_of-requires : goal.couple_of-requires
couple_of-requires c = ((coupled_kept _ _ _ _ _ c.requires.0 c.columns_of.auto.owners c.columns_of.auto.steps, coupled_kept _ _ _ _ _ c.requires.1 c.columns_of-2.auto.owners c.columns_of-2.auto.steps), bounded_steps _ _ _ _ _ _ _ c.columns_of.ensures c.requires.0.owners)

pub returns : goal.returns
returns c = paired _ _ _ _ _ _ _ _ _ _ _ _ _ _ _ _ _ _ _ _ _ c.columns_of.ensures c.columns_of-2.ensures c.columns_of.auto.owners c.couple_of.ensures
