-- The token at a place: document 01, section "Tokens", and the last sentence of its section "Meaning".
-- Assumes nothing.
use Rattle.std.specs.Prelude.{ℕ, ◌+◌, ◌-◌, List, [], Bool, true, false, length, take, drop, leb, ltb, eqb, Option, Some, None, Result, Ok, Err}
use Rattle.token.specs.Find.{pick, both, byte}
use Rattle.token.specs.declared.scan.Class.{Class}
use Rattle.token.specs.declared.scan.Class.TheVariants.{Letter as letter, Digit as digit, Blank as blank, Sign as plus_minus, Quote as quote, Punctuator as punctuator, Dot as dot, Slash as slash, Other as other}
use Rattle.token.specs.Bytes.{class_of, word_end, find_byte, pair_at, is_dotted, find_mark}
use Rattle.token.specs.Gaps.{skip}
use Rattle.token.specs.Words.{code_of}
use Rattle.token.specs.Numbers.{least_amount, greatest_amount, numeral}
use Rattle.token.specs.Floats.{mantissa_of, power_at, scale_of}
use Rattle.token.specs.declared.Sort.{Sort}
use Rattle.token.specs.declared.Sort.TheVariants.{Word, Number, String, Punctuator, Float}
use Rattle.token.specs.declared.Step.{Step}
use Rattle.token.specs.declared.Step.TheVariants.{Found, Refused, End}
use Rattle.token.specs.declared.Power.{Power}

-- the bytes from p up to e
abbrev pub bytes_between : List ℕ → ℕ → ℕ → List ℕ
bytes_between s p e = take (e - p) (drop p s)

-- the token of a sort from p up to e
unfoldable pub found : Sort → ℕ → ℕ → Step
found k p e = Found (record { sort = k; at = p; len = e - p }) (record { at = e })

-- "Word: an ASCII letter or underscore, then the longest run of letters, digits, underscores."
unfoldable pub word_at : List ℕ → ℕ → Step
word_at s p = found (Word (code_of (bytes_between s p (word_end s p)))) p (word_end s p)

-- "Value from -9223372036854775808 to 18446744073709551615": the largest amount after a minus and after none
unfoldable pub limit_of : Bool → ℕ
limit_of true = least_amount 64
limit_of false = greatest_amount 64

-- `-0` is 0: it is not negative
unfoldable pub is_negative : Bool → ℕ → Bool
is_negative minus m = both minus (ltb 0 m)

-- "Else there is no token at its first byte."
abbrev pub number_of : Bool → Option ℕ → ℕ → ℕ → Step
number_of minus (Some m) p e = found (Number (is_negative minus m) m) p e
number_of minus None p e = Refused p

-- "Number: an optional sign (`+` or `-`), then the longest run of letters, digits and underscores." It begins at p and its run at q: at p
-- itself, or after a sign
unfoldable pub whole_at : List ℕ → ℕ → ℕ → Step
whole_at s p q =
    number_of (eqb (byte s p) 45) (numeral (ltb p q) (limit_of (eqb (byte s p) 45)) (bytes_between s q (word_end s q))) p (word_end s q)

-- Q-4: "a malformed or larger one is no token at its first byte": with n digits after the dot. -0.0 is not negative
abbrev pub float_of : Bool → Option ℕ → Option Power → ℕ → ℕ → Step
float_of minus (Some m) (Some x) n p = found (Float (is_negative minus m) m (scale_of x.below x.amount n)) p x.end
float_of minus (Some m) None n p = Refused p
float_of minus None x n p = Refused p

-- Q-4: "the longest run after the dot belongs to it, through one sign right after its first e or E." It begins at p and its first run at q,
-- its dot stands at d, the run after the dot ends at r, with its first e or E at x
unfoldable pub float_by : List ℕ → ℕ → ℕ → ℕ → ℕ → ℕ → Step
float_by s p q d r x =
    float_of (eqb (byte s p) 45) (mantissa_of (bytes_between s q d) (bytes_between s (d + 1) x)) (power_at s x r) (x - (d + 1)) p

unfoldable pub float_at : List ℕ → ℕ → ℕ → ℕ → Step
float_at s p q d = float_by s p q d (word_end s (d + 1)) (find_mark s (word_end s (d + 1)) (d + 1))

-- Q-4: "A number's run followed by a dot and a digit is a float or no token"
unfoldable pub number_by : Bool → List ℕ → ℕ → ℕ → Step
number_by true s p q = float_at s p q (word_end s q)
number_by false s p q = whole_at s p q

unfoldable pub number_at : List ℕ → ℕ → ℕ → Step
number_at s p q = number_by (is_dotted s (word_end s q)) s p q

-- "String: `"`, any bytes but `"`, then `"`." The refusal of one that is not ended is at its first byte
unfoldable pub string_at : List ℕ → ℕ → Step
string_at s p = pick (ltb (find_byte 34 s (p + 1)) (length s)) (found String p (find_byte 34 s (p + 1) + 1)) (Refused p)

-- "and `..`": two bytes that touch
unfoldable pub dots_at : List ℕ → ℕ → Step
dots_at s p = pick (pair_at s p 46 46) (found (Punctuator 46) p (p + 2)) (Refused p)

-- the token that a byte of a class at p begins
unfoldable pub token_of : Class → List ℕ → ℕ → Step
token_of letter s p = word_at s p
token_of digit s p = number_at s p p
token_of blank s p = Refused p
token_of plus_minus s p = number_at s p (p + 1)
token_of quote s p = string_at s p
token_of punctuator s p = found (Punctuator (byte s p)) p (p + 1)
token_of dot s p = dots_at s p
token_of slash s p = Refused p
token_of other s p = Refused p

-- the token at p, where no blank and no comment stands. "Where no token is left, or the place is past the text, it hands back the end, at
-- the text's length."
unfoldable pub token_at : List ℕ → ℕ → Step
token_at s p = pick (ltb p (length s)) (token_of (class_of (byte s p)) s p) (End (length s))

-- a comment that is not ended is refused at its first byte
abbrev pub after_skip : List ℕ → Result ℕ ℕ → Step
after_skip s (Ok p) = token_at s p
after_skip s (Err p) = Refused p

-- "It is given the text and a place, and hands back the token and the place after it, or the refusal."
unfoldable pub step_at : List ℕ → ℕ → Step
step_at s p = after_skip s (skip s p)

-- "Given the text, a place and a length, a public call hands back that part of the lent text itself; where it does not lie inside, the empty
-- part at the start."
unfoldable pub part_of : List ℕ → ℕ → ℕ → List ℕ
part_of s p n = pick (both (leb p (length s)) (leb n (length s - p))) (take n (drop p s)) []

-- Where that part begins in the lent text: at its place, or at the start.
unfoldable pub part_place : List ℕ → ℕ → ℕ → ℕ
part_place s p n = pick (both (leb p (length s)) (leb n (length s - p))) p 0
