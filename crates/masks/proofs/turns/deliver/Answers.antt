use native.Mathlib.Omega.{arith}
use Rattle.masks.proofs.Calls.{full_delivered, plan_delivered}
use Rattle.masks.proofs.turns.deliver.Goals as goal

pub returns-in-Some : goal.returns-in-Some
returns-in-Some c = full_delivered _ _ _ _ c.in-Some.is

pub returns-in-None : goal.returns-in-None
returns-in-None c = plan_delivered _ _ _ _ c.in-None.is (omega arith) c.put_masks.ensures
