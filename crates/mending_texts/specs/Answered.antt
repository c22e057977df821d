-- The answer of `mend` to lent texts: how long the mended text and the lines are, or the refusal. Assumes nothing.
use Rattle.std.specs.Prelude.{ℕ, Result, Ok}
use Rattle.rows.specs.declared.Fault.{Fault}
use Rattle.mending.specs.declared.Mended.{Mended}

abbrev pub Answer : Type 0
Answer = Result Mended Fault

-- A mended text of n bytes, with lines of m bytes.
abbrev pub done_of : (n m : ℕ) → Answer
done_of n m = Ok (record { text = n; lines = m })
