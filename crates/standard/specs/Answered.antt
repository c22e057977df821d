-- The answer to a text: its refusal, nothing that is wrong, or what is wrong. Assumes nothing.
use Rattle.std.specs.Prelude.{ℕ, Option, Some, None, Result, Ok}
use Rattle.rows.specs.declared.Fault.{Fault}
use Rattle.standard.specs.declared.Wrong.{Wrong}

-- What is wrong, if anything is.
abbrev pub MaybeWrong : Type 0
MaybeWrong = Option Wrong

abbrev pub Checked : Type 0
Checked = Result MaybeWrong Fault

abbrev pub all_right : Checked
all_right = Ok None

-- 25 or 26 at q, of the standard attribute a
abbrev pub wrong : (n q a : ℕ) → Wrong
wrong n q a = record { number = n; place = q; attribute = a }

abbrev pub wrong_at : (n q a : ℕ) → Checked
wrong_at n q a = Ok (Some (wrong n q a))
