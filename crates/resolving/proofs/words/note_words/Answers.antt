-- `resolving::words::note_words` meets its contract: the cells before i are right.
-- Assumes nothing.
use lib.ListN.{length-set}
use mathlib.Core.Path.{refl}
use native.Mathlib.Omega.{arith}
use Rattle.resolving.proofs.Namings.{notes_start, notes_more, notes_all}
use Rattle.resolving.proofs.words.note_words.Goals as goal

pub loop-i-init : goal.loop-i-init
loop-i-init c = (omega arith, (refl, notes_start))

pub loop-i-preserved : goal.loop-i-preserved
loop-i-preserved c = (simp length-set (omega arith), (simp length-set c.loop-i.invariant.1.0, notes_more c.loop-i.invariant.1.1 (omega arith) c.note_word.ensures))

pub shape_of-t : goal.shape_of-t
shape_of-t c = c.loop-i.invariant.1.0

pub returns : goal.returns
returns c = notes_all c.loop-i.invariant.1.1 (omega arith)
