-- `resolving::words::note_words` meets its contract: the cells before i are right.
-- Assumes nothing.
use lib.ListN.{length}
use Prim.Native.Nat.{◌≤◌}
use mathlib.Core.Path.{◌≡◌}
use Rattle.resolving.specs.Noted.{NotesTo}
use Rattle.resolving.proofs.words.note_words.Given as goal

abbrev pub invariant-loop-i : goal.invariant-loop-i
invariant-loop-i l = (l.i ≤ length l.t) × ((length l.t ≡ length l.initial.t) × NotesTo l.text l.d l.e l.x l.i l.t)
