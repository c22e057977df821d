-- `comparing::positions::reckon_positions` meets its contract: before row i the positions of the rows before are there.
-- Assumes nothing.
use Rattle.comparing.proofs.Reckoning.{reckon_inside, reckon_next, reckon_end}
use Rattle.comparing.proofs.Sought.{position_found}
use native.Mathlib.Omega.{arith}
use Rattle.comparing.proofs.positions.reckon_positions.Goals as goal

pub loop-i-preserved : goal.loop-i-preserved
loop-i-preserved c = reckon_next _ _ c.loop-i.out c.loop-i.i _ c.loop-i.invariant (omega arith) (position_found _ _ _ _ _ _ _ c.position_of.ensures c.requires.0 (reckon_inside _ _ _ _ c.loop-i.invariant))

pub returns : goal.returns
returns c = reckon_end _ _ _ c.loop-i.i c.loop-i.invariant (omega arith)
