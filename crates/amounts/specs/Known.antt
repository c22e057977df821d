-- The numbers and floats of the definitions, read once. Two tables: what they say is so; where they say nothing, the text is read. Assumes nothing.
--
-- Ranges: 512 cells that are not looked at here, then 512 rows of five cells, a row for each definition, then the numbers of all lists.
-- A row is 1, the low number, the high number (sign and amount each); or 2, where its list begins and where it ends, 0, 0; or 3, the low float, the
-- high float (digits, then twice the scale and the sign, each).
-- Defaults: 512 rows of three cells. A row is 1, the sign and the amount of the default.
use Rattle.std.specs.Prelude.{◌≡◌, List, Bool, not, ℕ, ◌+◌, ◌-◌, ◌*◌, ◌/◌, ◌%◌, ◌^◌, ◌≤◌, ◌<◌, length, get_or, eqb}
use Rattle.token.specs.Find.{both, bit}
use Rattle.token.specs.Tokens.{step_at}
use Rattle.rows.specs.Table.{part}
use Rattle.meaning.specs.Syntax.{Num, Bounds}
use Rattle.meaning.specs.Actions.{num_of_step}
use Rattle.meaning.specs.Words.{num_at_most, in_bounds, in_float_bounds}
use Rattle.scopes.specs.Ranges.{RangeAt, FloatsAt}
use Rattle.amounts.specs.Keys.{signed_code, Listing}

-- The number in two cells, its sign and its amount.
unfoldable pub num_in : ℕ → ℕ → Num
num_in c a = record { negative = not (eqb c 0); amount = a }

-- The float in two cells: its digits; its sign, odd for a negative one, and twice its scale.
unfoldable pub float_in : ℕ → ℕ → Num
float_in m c = record { negative = not (eqb (c % 2) 0); amount = m * 10 ^ (c / 2 % 256) }

-- The row r of the table t tells which numbers are in the bounds b; the lists end at `used`.
pub record Told (sign : Bool) (b : Bounds) (r t : List ℕ) (used : ℕ) : Type 0 where
  pub two : get_or r 0 0 ≡ 1 → (n : Num) → both (num_at_most (num_in (get_or r 1 0) (get_or r 2 0)) n) (num_at_most n (num_in (get_or r 3 0) (get_or r 4 0))) ≡ in_bounds n b
  pub within : get_or r 0 0 ≡ 2 → (3072 ≤ get_or r 1 0) × (get_or r 1 0 ≤ get_or r 2 0) × (get_or r 2 0 ≤ used)
  pub list : get_or r 0 0 ≡ 2 → Listing sign b (part t (get_or r 1 0) (get_or r 2 0 - get_or r 1 0))

-- The row r tells which floats are in the bounds b.
abbrev pub ToldFloats : (b : Bounds) (r : List ℕ) → Type 0
ToldFloats b r =
    get_or r 0 0 ≡ 3 → (n : Num) → both (num_at_most (float_in (get_or r 1 0) (get_or r 2 0)) n) (num_at_most n (float_in (get_or r 3 0) (get_or r 4 0))) ≡ in_float_bounds n b

-- The rows of t are right for the definitions d of the text s, and the lists end at `used`.
pub record Noted (s d t : List ℕ) (used : ℕ) : Type 0 where
  pub room : 3072 ≤ used
  pub inside : used ≤ length t
  pub told : (j : ℕ) → j < 512 → (b : Bounds) → RangeAt s (get_or d (j * 19 + 8) 0) b → Told (signed_code (get_or d (j * 19 + 12) 0)) b (part t (512 + j * 5) 5) t used
  pub floats : (j : ℕ) → j < 512 → (b : Bounds) → FloatsAt s (get_or d (j * 19 + 8) 0) b → ToldFloats b (part t (512 + j * 5) 5)

-- The table of ranges is right.
pub record Known (s d t : List ℕ) : Type 0 where
  pub used : ℕ
  pub noted : Noted s d t used

-- The two cells hold a number.
pub record InCells (n : Num) (c a : ℕ) : Type 0 where
  pub negative : c ≡ bit n.negative
  pub amount : a ≡ n.amount

-- The table of defaults is right.
pub record KnownDefaults (s d t : List ℕ) : Type 0 where
  pub room : length t ≡ 1536
  pub told : (j : ℕ) → j < 512 → get_or (part t (j * 3) 3) 0 0 ≡ 1
      → InCells (num_of_step (step_at s (get_or d (j * 19 + 10) 0))) (get_or (part t (j * 3) 3) 1 0) (get_or (part t (j * 3) 3) 2 0)
