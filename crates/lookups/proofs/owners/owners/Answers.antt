use native.Mathlib.Omega.{arith}
use mathlib.Core.Path.{refl}
use Rattle.lookups.proofs.Owning.{owners_sorted}
use borrow.Author.Rules.{rules}
use Rattle.lookups.proofs.owners.owners.Goals as goal

pub returns : goal.returns
returns c = owners_sorted _ _ _ _ _ _ refl (search rules) (omega arith) c.note_owners.ensures c.sort.ensures
