-- What a lookup finds: the row, or none.
-- Assumes nothing.
use Rattle.std.specs.Prelude.{ℕ, Option}

abbrev pub Found : Type 0
Found = Option ℕ
