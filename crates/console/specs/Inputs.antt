-- What a reading of a text may answer. Which bytes came is the system's. Assumes nothing.
use Rattle.std.specs.Prelude.{List, ℕ, Result, Ok, Err}
use Rattle.console.specs.Counts.{IsPrefixLen}

-- a text lies at the start of the buffer
abbrev pub Within : Result ℕ ℕ → List ℕ → Type 0
Within (Ok n) b = IsPrefixLen n b
Within (Err e) b = Unit {0}
