use native.Mathlib.Omega.{arith}
use Rattle.lookups.proofs.Naming.{puts_ranks}
use Rattle.lookups.proofs.names.put_ranks.Goals as goal

pub returns : goal.returns
returns c = puts_ranks _ _ _ _ c.requires (omega arith) _ _ _ _ _ _ c.note_ranks.ensures
