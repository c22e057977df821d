use mathlib.Core.Path.{◌≡◌}
use lib.ListN.{length}
use Rattle.resolving.specs.Noted.{NotesTaken}
use Rattle.resolving.proofs.scanning.note_taken.Given as goal

abbrev pub invariant-loop-i : goal.invariant-loop-i
invariant-loop-i l = (length l.marks ≡ length l.initial.marks) × NotesTaken l.d l.i l.marks
