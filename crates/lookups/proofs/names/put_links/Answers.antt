use lib.ListN.{length}
use native.Mathlib.Omega.{arith}
use Rattle.lookups.proofs.Naming.{puts_links, lent_count}
use Rattle.lookups.proofs.names.put_links.Goals as goal

pub note_next-requires : goal.note_next-requires
note_next-requires c = lent_count (c.args.names.now) 4867 (length (c.args.h.now)) c.requires

pub returns : goal.returns
returns c = puts_links _ _ _ _ c.requires (omega arith) c.note_next.ensures
