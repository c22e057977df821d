-- The answer of `mend`: how long the mended text and the lines are, or why there is none. Assumes nothing.
use Rattle.std.specs.Prelude.{ℕ, Result, Ok, Err}
use Rattle.rows.specs.Refusing.{fault_at}
use Rattle.mending.specs.declared.Mended.{Mended}
use Rattle.mending.specs.declared.Unmended.{Unmended}
use Rattle.mending.specs.declared.Unmended.TheVariants.{Refused, NotMended}

abbrev pub Answer : Type 0
Answer = Result Mended Unmended

-- The text itself is refused.
abbrev pub refused_at : ℕ → ℕ → Answer
refused_at n p = Err (Refused (fault_at n p))

-- The mended text is refused, or does not fit.
abbrev pub not_mended_at : ℕ → ℕ → Answer
not_mended_at n p = Err (NotMended (fault_at n p))

-- A mended text of n bytes, with lines of m bytes.
abbrev pub done_at : (n m : ℕ) → Answer
done_at n m = Ok (record { text = n; lines = m })
