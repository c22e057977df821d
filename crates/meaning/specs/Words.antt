-- Words and numbers: which words are the same, which numbers an attribute takes (document 01, "Tokens" and "Integer bounds").
-- Assumes nothing.
use Rattle.std.specs.Prelude.{List, [], ◌∷◌, Bool, true, false, not, ℕ, ◌-◌, ◌^◌, leb}
use Rattle.grammar.specs.Grammar.{Integer, UINT32, INT32, UINT64, INT64}
use Rattle.token.specs.Find.{pick, both, either}
use Rattle.token.specs.Words.{same}
use Rattle.meaning.specs.Syntax.{Num, Word, Bounds, no_bounds, from_to, one_of}

-- A branch that waits: only the one that is taken is computed.
unfoldable pub choose : {A : Type 0} → Bool → (Unit {0} → A) → (Unit {0} → A) → A
choose true f g = f tt
choose false f g = g tt

-- Words ------------------------------------------------------------------------------------------------------------------------------------

-- Two words have the same bytes: "Case matters."
unfoldable pub alike : Word → Word → Bool
alike t u = same t.bytes u.bytes

-- A word has the bytes of one of a list's words.
unfoldable pub among : Word → List Word → Bool
among t [] = false
among t (u ∷ us) = either (alike t u) (among t us)

-- Numbers ----------------------------------------------------------------------------------------------------------------------------------

-- The order of numbers, by sign and amount: "both ends included".
unfoldable pub num_at_most : Num → Num → Bool
num_at_most a b =
    pick a.negative (either (not b.negative) (leb b.amount a.amount)) (both (not b.negative) (leb a.amount b.amount))

unfoldable pub equal : Num → Num → Bool
equal a b = both (num_at_most a b) (num_at_most b a)

-- The least and the greatest number of w bits, with a sign or without.
unfoldable pub least_of : Bool → ℕ → Num
least_of true w = record { negative = true; amount = 2 ^ (w - 1) }
least_of false w = record { negative = false; amount = 0 }

unfoldable pub greatest_of : Bool → ℕ → Num
greatest_of true w = record { negative = false; amount = 2 ^ (w - 1) - 1 }
greatest_of false w = record { negative = false; amount = 2 ^ w - 1 }

-- "types: UINT32, INT32, UINT64, INT64": with a sign or without, and their bits.
unfoldable pub signed : Integer → Bool
signed UINT32 = false
signed INT32 = true
signed UINT64 = false
signed INT64 = true

unfoldable pub width : Integer → ℕ
width UINT32 = 32
width INT32 = 32
width UINT64 = 64
width INT64 = 64

-- "Integer bounds are the type's and the range's, both ends included": the type's,
unfoldable pub in_type : Integer → Num → Bool
in_type i n = both (num_at_most (least_of (signed i) (width i)) n) (num_at_most n (greatest_of (signed i) (width i)))

-- and the range's: between the low and the high number, or one of the numbers listed.
unfoldable pub among_numbers : Num → List Word → Bool
among_numbers n [] = false
among_numbers n (t ∷ ts) = either (equal n t.number) (among_numbers n ts)

unfoldable pub in_bounds : Num → Bounds → Bool
in_bounds n no_bounds = true
in_bounds n (from_to a b) = both (num_at_most a.number n) (num_at_most n b.number)
in_bounds n (one_of ts) = among_numbers n ts

-- A float in a range of floats, both ends included (document 02, Q-4). A FLOAT has no list of floats.
unfoldable pub in_float_bounds : Num → Bounds → Bool
in_float_bounds n no_bounds = true
in_float_bounds n (from_to a b) = both (num_at_most a.float n) (num_at_most n b.float)
in_float_bounds n (one_of ts) = false
