-- `comparing::partners::partner_of` meets its contract.
-- Assumes nothing.
use Rattle.comparing.proofs.Partnering.{found_top, found_none, found_under}
use native.Mathlib.Omega.{arith}
use Rattle.comparing.proofs.partners.partner_of.Goals as goal

pub returns-then-owner-eq0 : goal.returns-then-owner-eq0
returns-then-owner-eq0 c = found_top _ _ _ _ _ c.if-owner-eq0.true c.find_step.ensures

pub returns-then-p-eq0 : goal.returns-then-p-eq0
returns-then-p-eq0 c = found_none _ _ _ _ _ (omega arith) c.get-p.ensures c.if-p-eq0.true

pub returns : goal.returns
returns c = found_under _ _ _ _ _ _ (omega arith) c.get-p.ensures c.if-p-eq0.false c.find_step-2.ensures
