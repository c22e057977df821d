-- A refusal, as the answer of a call: its number and its place. Assumes nothing.
use Rattle.std.specs.Prelude.{ℕ, Result, Err}
use Rattle.rows.specs.declared.Fault.{Fault}

abbrev pub fault_at : ℕ → ℕ → Fault
fault_at n p = record { number = n; place = p }

abbrev pub refusing : {A : Type 0} → ℕ → ℕ → Result A Fault
refusing n p = Err (fault_at n p)
