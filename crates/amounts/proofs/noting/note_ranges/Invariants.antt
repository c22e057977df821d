-- `amounts::noting::note_ranges` meets its contract: the rows noted so far are right.
-- Assumes nothing.
use mathlib.Core.Path.{◌≡◌}
use lib.ListN.{length}
use Rattle.amounts.proofs.Rowwise.{Rows}
use Rattle.amounts.proofs.noting.note_ranges.Given as goal

abbrev pub invariant-loop-j : goal.invariant-loop-j
invariant-loop-j l = Rows l.text l.d l.initial.t l.t l.used × (length l.spare ≡ length l.initial.spare)
