-- The answer to the question for a value: the refusal, no such value, or how many bytes of the output it takes. Assumes nothing.
use Rattle.std.specs.Prelude.{ℕ, Option, Some, None, Result, Ok}
use Rattle.rows.specs.declared.Fault.{Fault}

abbrev pub Valued : Type 0
Valued = Result (Option ℕ) Fault

abbrev pub no_value : Valued
no_value = Ok None

abbrev pub of_length : ℕ → Valued
of_length n = Ok (Some n)
