use Rattle.masks.proofs.Calls.{named_at, named_nothing}
use Rattle.masks.proofs.verdict.Goals as goal

pub returns-in-Some : goal.returns-in-Some
returns-in-Some c = named_at _ _ c.in-Some.is

pub returns-in-None : goal.returns-in-None
returns-in-None c = named_nothing _ c.in-None.is
