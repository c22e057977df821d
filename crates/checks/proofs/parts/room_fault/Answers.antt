use Rattle.checks.proofs.Turns.{room_is}
use Rattle.checks.proofs.parts.room_fault.Goals as goal

pub returns : goal.returns
returns c = room_is _ _ _ _ _ _ _ _ (c.cell_of-place.ensures) (c.fault_if.ensures)
