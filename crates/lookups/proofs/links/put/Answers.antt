use native.Mathlib.Omega.{arith}
use lib.Seq.{set_out}
use mathlib.Core.Path.{sym}
use Rattle.lookups.proofs.links.put.Goals as goal

pub returns-else-at-t : goal.returns-else-at-t
returns-else-at-t c = sym (set_out _ _ _ (omega arith))
