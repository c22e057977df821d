-- `lookups::note_ranks` meets its contract.
-- Assumes nothing.
use Rattle.lookups.proofs.Notes.{NotesRanksTo}
use lib.ListN.{length}
use mathlib.Core.Path.{◌≡◌}
use Prim.Native.Nat.{◌≤◌, ◌*◌, min}
use Rattle.lookups.proofs.note_ranks.Given as goal

abbrev pub invariant-loop-rank : goal.invariant-loop-rank
invariant-loop-rank l = (l.rank-index ≤ length l.h) × (length l.h ≡ length l.initial.h) × (l.start ≡ min (length l.t) (l.rank-index * l.width)) × NotesRanksTo l.text l.d l.x l.t l.width l.name l.rank-index l.h
