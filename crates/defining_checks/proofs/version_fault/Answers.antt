use Rattle.defining_checks.proofs.Turns.{version_is}
use mathlib.Core.Path.{refl}
use Rattle.defining_checks.proofs.version_fault.Goals as goal

pub returns : goal.returns
returns c = version_is _ _ _ _ _ _ _ c.part.ensures.bytes refl c.same_bytes-same.ensures c.fault_if.ensures
