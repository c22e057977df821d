use mathlib.Core.Path.{◌≡◌}
use lib.ListN.{length}
use Rattle.lookups.specs.Owners.{NotesOwners}
use Rattle.lookups.proofs.owners.note_owners.Given as goal

abbrev pub invariant-loop-i : goal.invariant-loop-i
invariant-loop-i l = (length l.owners ≡ length l.initial.owners) × NotesOwners l.d l.marks l.i l.owners
