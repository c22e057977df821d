-- `comparing::positions::position_of` meets its contract: of the rows before that are asked for, the last is that of the cell before the place.
-- Assumes nothing.
use Rattle.comparing.proofs.Sought.{placed_past, placed_other, placed_there}
use native.Mathlib.Omega.{arith}
use Rattle.comparing.proofs.positions.position_of.Goals as goal

pub returns-then-p-eq0 : goal.returns-then-p-eq0
returns-then-p-eq0 c = placed_past _ _ _ _ _ _ c.requires.0 c.requires.1 c.key_of-k.ensures c.first_place-p.ensures c.if-p-eq0.true

pub returns-then-c-k : goal.returns-then-c-k
returns-then-c-k c = placed_other _ _ _ _ _ _ c.requires.0 c.requires.1 c.key_of-k.ensures c.first_place-p.ensures (omega (arith, c.if-p-eq0.false)) c.if-c-k.true

pub returns : goal.returns
returns c = placed_there _ _ _ _ _ _ c.requires.0 c.requires.1 c.key_of-k.ensures c.first_place-p.ensures _ c.get.ensures (omega (arith, c.if-p-eq0.false)) c.if-c-k.false
