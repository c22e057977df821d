-- The answer to a text: the version string and the implementation's name, or a refusal. Assumes nothing.
use Rattle.std.specs.Prelude.{ℕ, Result, Ok}
use Rattle.rows.specs.declared.Fault.{Fault}
use Rattle.heading.specs.declared.VersionAndName.{VersionAndName}

abbrev pub Answer : Type 0
Answer = Result VersionAndName Fault

-- The version string of n bytes at p, and the name of m bytes at q.
abbrev pub told_at : (p n q m : ℕ) → VersionAndName
told_at p n q m = record { version_at = p; version_len = n; name_at = q; name_len = m }

abbrev pub heading_at : (p n q m : ℕ) → Answer
heading_at p n q m = Ok (told_at p n q m)
