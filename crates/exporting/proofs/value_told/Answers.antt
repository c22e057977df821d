use Rattle.exporting.proofs.Telling.{value_refused, value_lost, value_copied}
use Rattle.exporting.proofs.value_told.Goals as goal

pub returns-in-Err : goal.returns-in-Err
returns-in-Err c = value_refused _ _ _ _ c.in-Err.is _ c.refusal.ensures

pub returns-in-None : goal.returns-in-None
returns-in-None c = value_lost _ _ _ c.in-Ok.is c.in-None.is

pub returns-in-Some : goal.returns-in-Some
returns-in-Some c = value_copied _ _ _ c.in-Ok.is c.in-Some.is
