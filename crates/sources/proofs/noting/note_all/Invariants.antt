use Rattle.sources.specs.Notes.{AllNoted}
use lib.ListN.{length}
use mathlib.Core.Path.{◌≡◌}
use Rattle.sources.proofs.noting.note_all.Given as goal

abbrev pub invariant-loop-number : goal.invariant-loop-number
invariant-loop-number l = (length l.notes ≡ length l.initial.notes) × AllNoted l.buffer l.lengths l.notes l.number
