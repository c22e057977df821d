-- `comparing::pairs::first_values` meets its contract.
-- Assumes nothing.
use lib.ListN.{length}
use Rattle.comparing.proofs.Pairing.{Gathering}
use Rattle.comparing.proofs.pairs.first_values.Given as goal

abbrev pub invariant-loop-k : goal.invariant-loop-k
invariant-loop-k l =
    Gathering l.fn.a.side.text.now l.fn.a.side.definitions.now l.fn.a.side.values.now l.fn.b.side.text.now l.fn.b.side.definitions.now l.fn.b.side.values.now l.fn.a.number l.fn.b.number l.back (length l.back) l.fn.a.from l.initial.all l.all l.k
