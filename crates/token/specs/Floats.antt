-- Floats (document 02, Q-4): "A float is an optional sign, digits, a dot, digits and optionally e or E with an optional sign and digits. It has
-- at most 18 digits around the dot and an exponent from -64 to 64; a malformed or larger one is no token at its first byte."
-- Assumes nothing.
use Rattle.std.specs.Prelude.{ℕ, ◌+◌, ◌-◌, List, Bool, true, false, length, take, drop, leb, eqb, Option, Some, None}
use Rattle.token.specs.Find.{pick, byte}
use Rattle.token.specs.Bytes.{word_end, is_signed}
use Rattle.token.specs.Numbers.{digits_after}
use Rattle.token.specs.declared.Power.{Power}

-- "digits", one or more: their value after those of a, if it is at most max; leading zeros are digits
unfoldable pub some_digits : ℕ → ℕ → List ℕ → Option ℕ
some_digits max a w = pick (eqb (length w) 0) None (digits_after 10 max a w)

-- the digits w after those whose value is known
unfoldable pub digits_behind : Option ℕ → List ℕ → Option ℕ
digits_behind (Some a) w = some_digits 999999999999999999 a w
digits_behind None w = None

-- the digits v before the dot and w after it, as one whole number. "It has at most 18 digits around the dot": so it is never more than
-- 999999999999999999
unfoldable pub mantissa_of : List ℕ → List ℕ → Option ℕ
mantissa_of v w = pick (leb (length v + length w) 18) (digits_behind (some_digits 999999999999999999 0 v) w) None

-- an exponent: whether it is below 0, its amount, and where the float ends
abbrev pub times : Bool → ℕ → ℕ → Option Power
times below m e = Some (record { below = below; amount = m; end = e })

unfoldable pub power_of : Bool → Option ℕ → ℕ → Option Power
power_of below (Some m) e = times below m e
power_of below None e = None

-- "optionally e or E with an optional sign and digits", "an exponent from -64 to 64": the run after the dot ends at r, and its first e or E
-- stands at x, which is r where it has none
unfoldable pub power_at : List ℕ → ℕ → ℕ → Option Power
power_at s x r =
    pick (eqb x r) (times false 0 r)
    (pick (is_signed s x r)
    (power_of (eqb (byte s r) 45) (some_digits 64 0 (take (word_end s (r + 1) - (r + 1)) (drop (r + 1) s))) (word_end s (r + 1)))
    (power_of false (some_digits 64 0 (take (r - (x + 1)) (drop (x + 1) s))) r))

-- The power of ten by which the mantissa of a float with n digits after its dot counts, plus 82: an exponent of -64 and 18 digits after the
-- dot make it no less than 0. So a float is its mantissa times 10 to this, and all floats are counted in parts of 10 to the 82.
unfoldable pub scale_of : Bool → ℕ → ℕ → ℕ
scale_of true m n = 82 - n - m
scale_of false m n = 82 - n + m
