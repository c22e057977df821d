-- A step of the token layer, and a part of a text, as plain numbers.
-- Assumes nothing.
use Rattle.std.specs.Prelude.{ℕ, List, Bool, true, false, length}
use Rattle.token.specs.Tokens.{part_of}
use Rattle.token.specs.declared.Sort.{Sort}
use Rattle.token.specs.declared.Sort.TheVariants.{Word, Number, String, Punctuator, Float}
use Rattle.token.specs.declared.Step.{Step}
use Rattle.token.specs.declared.Step.TheVariants.{Found, Refused, End}

unfoldable pub number_of_sort : Sort → ℕ
number_of_sort (Word code) = 2
number_of_sort (Number negative amount) = 3
number_of_sort String = 4
number_of_sort (Punctuator b) = 5
number_of_sort (Float negative digits scale) = 6

-- a word's code, a number's amount, a punctuator's byte
unfoldable pub detail_of_sort : Sort → ℕ
detail_of_sort (Word code) = code
detail_of_sort (Number negative amount) = amount
detail_of_sort String = 0
detail_of_sort (Punctuator b) = b
detail_of_sort (Float negative digits scale) = digits

unfoldable pub sign_of_sort : Sort → Bool
sign_of_sort (Word code) = false
sign_of_sort (Number negative amount) = negative
sign_of_sort String = false
sign_of_sort (Punctuator b) = false
sign_of_sort (Float negative digits scale) = negative

-- what was found: 0 the end, 1 the refusal, from 2 on the tokens
unfoldable pub sort_of : Step → ℕ
sort_of (Found t c) = number_of_sort t.sort
sort_of (Refused p) = 1
sort_of (End n) = 0

-- where it stands
unfoldable pub place_of : Step → ℕ
place_of (Found t c) = t.at
place_of (Refused p) = p
place_of (End n) = n

-- where the step after it begins
unfoldable pub next_of : Step → ℕ
next_of (Found t c) = c.at
next_of (Refused p) = p
next_of (End n) = n

unfoldable pub detail_of : Step → ℕ
detail_of (Found t c) = detail_of_sort t.sort
detail_of (Refused p) = 0
detail_of (End n) = 0

unfoldable pub sign_of : Step → Bool
sign_of (Found t c) = sign_of_sort t.sort
sign_of (Refused p) = false
sign_of (End n) = false

-- how long the part of a place and a length is; the empty part at the start where it does not lie inside
unfoldable pub part_length : List ℕ → ℕ → ℕ → ℕ
part_length s p n = length (part_of s p n)
