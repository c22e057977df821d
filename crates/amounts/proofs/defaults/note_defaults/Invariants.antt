-- `amounts::defaults::note_defaults` meets its contract.
-- Assumes nothing.
use Rattle.amounts.proofs.Remembering.{Rows}
use Rattle.amounts.proofs.defaults.note_defaults.Given as goal

abbrev pub invariant-loop-j : goal.invariant-loop-j
invariant-loop-j l = Rows l.text l.d l.initial.t l.t
