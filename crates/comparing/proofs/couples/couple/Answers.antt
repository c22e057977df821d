-- `comparing::couples::couple` meets its contract.
-- Assumes nothing.
use Rattle.comparing.proofs.Lined.{coupled}
use Rattle.comparing.proofs.Sought.{partners_found}
use Rattle.comparing.proofs.couples.couple.Goals as goal

pub returns : goal.returns
returns c = coupled _ _ _ _ _ _ _ _ _ _ _ _ _ _ c.gather.result (partners_found _ _ _ _ _ _ c.find_partners.ensures c.order.ensures) c.gather.ensures
