-- `token::scan::word_end` meets its contract: the end of the run from i on is the end from the start.
-- Assumes nothing.
use Rattle.token.specs.Bytes.{word_end}
use mathlib.Core.Path.{◌≡◌}
use Rattle.token.proofs.scan.word_end.Given as goal

abbrev pub invariant-loop-i : goal.invariant-loop-i
invariant-loop-i l = word_end l.text l.i ≡ word_end l.text l.from
