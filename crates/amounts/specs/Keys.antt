-- A number as one cell, two's complement, beside others of a type with a sign or of one without. Assumes nothing.
use Rattle.std.specs.Prelude.{◌≡◌, List, Bool, true, false, not, ℕ, ◌-◌, eqb, leb, ltb}
use Rattle.token.specs.Find.{pick, both, either}
use Rattle.sorting.specs.Sorted.{among_cells, Rising}
use Rattle.meaning.specs.Syntax.{Num, Bounds}
use Rattle.meaning.specs.Words.{in_bounds}

-- The codes of INT32 and INT64.
unfoldable pub signed_code : ℕ → Bool
signed_code c = either (eqb c 36) (eqb c 38)

-- Without a sign every number that is not negative has a cell of its own; with a sign those from -2^63 to 2^63 - 1.
unfoldable pub num_has_key : Bool → Num → Bool
num_has_key false n = not n.negative
num_has_key true n = pick n.negative (both (leb 1 n.amount) (leb n.amount 9223372036854775808)) (ltb n.amount 9223372036854775808)

-- The cell: the amount, or 2^64 less the amount of a negative number.
unfoldable pub key : Num → ℕ
key n = pick n.negative (18446744073709551615 - (n.amount - 1)) n.amount

-- The cells are in rising order, and tell which numbers are in the bounds.
pub record Listing (sign : Bool) (b : Bounds) (cells : List ℕ) : Type 0 where
  pub rising : Rising cells
  pub tells : (n : Num) → num_has_key sign n ≡ true → among_cells (key n) cells ≡ in_bounds n b
