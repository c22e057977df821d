-- Numbers: "The run must be `0`, or decimal with no leading zero, or (unsigned only) `0x` with one or more hex digits. Value from
-- -9223372036854775808 to 18446744073709551615. Else there is no token at its first byte."
-- Assumes nothing.
use Rattle.std.specs.Prelude.{ℕ, ◌+◌, ◌-◌, ◌*◌, ◌^◌, List, [], ◌∷◌, Bool, true, not, length, drop, leb, ltb, eqb, Option, Some, None}
use Rattle.token.specs.Find.{pick, both, byte}
use Rattle.token.specs.Bytes.{between}

-- the value of a digit: `0` to `9`, `A` to `F`, `a` to `f`; 16 for any other byte
unfoldable pub digit_of : ℕ → ℕ
digit_of b = pick (between 48 57 b) (b - 48) (pick (between 65 70 b) (b - 55) (pick (between 97 102 b) (b - 87) 16))

-- all bytes are digits of the base
abbrev pub all_digits : ℕ → List ℕ → Bool
all_digits base [] = true
all_digits base (x ∷ xs) = both (ltb (digit_of x) base) (all_digits base xs)

-- the value of digits that stand after those of a
unfoldable pub value_after : ℕ → ℕ → List ℕ → ℕ
value_after base a [] = a
value_after base a (x ∷ xs) = value_after base (a * base + digit_of x) xs

-- a value, if it is at most max
unfoldable pub at_most : ℕ → ℕ → Option ℕ
at_most max n = pick (leb n max) (Some n) None

-- the value of digits that stand after those of a, if they all are digits and it is at most max
unfoldable pub digits_after : ℕ → ℕ → ℕ → List ℕ → Option ℕ
digits_after base max a xs = pick (all_digits base xs) (at_most max (value_after base a xs)) None

-- the amounts of the least number and of the greatest number of w bits: -2 ^ (w - 1) with a sign bit, 2 ^ w - 1 without
abbrev pub least_amount : ℕ → ℕ
least_amount w = 2 ^ (w - 1)

abbrev pub greatest_amount : ℕ → ℕ
greatest_amount w = 2 ^ w - 1

-- "The run must be `0`, or decimal with no leading zero, or (unsigned only) `0x` with one or more hex digits."
unfoldable pub numeral : Bool → ℕ → List ℕ → Option ℕ
numeral signed max w =
    pick (eqb (length w) 0) None
    (pick (eqb (byte w 0) 48)
    (pick (eqb (length w) 1) (Some 0)
    (pick (both (not signed) (both (eqb (byte w 1) 120) (ltb 2 (length w)))) (digits_after 16 max 0 (drop 2 w)) None))
    (digits_after 10 max 0 w))
