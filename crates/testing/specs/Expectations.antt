-- A flag of what the grammar admits at a place. Assumes nothing.
use Rattle.std.specs.Prelude.{◌≡◌, List, Bool, ℕ, ◌<◌}
use Rattle.expecting.specs.Flags.{flag, Tells}

-- r is the flag i of those that are told for the place p of the text s
pub record Flagged (s : List ℕ) (p i : ℕ) (r : Bool) : Type 0 where
  pub flags : List Bool
  pub tells : Tells s p flags
  pub is : i < 29 → r ≡ flag flags i
