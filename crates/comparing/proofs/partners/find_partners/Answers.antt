-- `comparing::partners::find_partners` meets its contract: before row i the partners of the rows before are there.
-- Assumes nothing.
use Rattle.comparing.proofs.Partnering.{filling_next, filling_end}
use native.Mathlib.Omega.{arith}
use Rattle.comparing.proofs.partners.find_partners.Goals as goal

pub loop-i-preserved : goal.loop-i-preserved
loop-i-preserved c = filling_next _ _ _ c.loop-i.out c.loop-i.i _ c.loop-i.invariant (omega arith) c.partner_of.ensures

pub returns : goal.returns
returns c = filling_end _ _ _ _ c.loop-i.i c.loop-i.invariant (omega arith)
