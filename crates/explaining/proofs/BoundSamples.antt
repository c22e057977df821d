-- Which fault of refusal 21 it is, of the numbers of small ranges, as one table. Assumes nothing.
use Prim.Native.Nat.{ℕ}
use Prim.Native.String.{String}
use mathlib.Core.Path.{◌≡◌, refl}
use mathlib.Core.Bool.{Bool, true, false}
use mathlib.Core.List.{List, [], ◌∷◌}
use Rattle.token.specs.Find.{first_of, find}
use Rattle.token.specs.Bytes.{class_of, is_word_byte, word_end, find_byte, pair_at, find_close, is_dotted, find_mark, is_signed}
use Rattle.token.specs.Gaps.{comment_at, gap_of, gap_at, skip_n, skip}
use Rattle.token.specs.Words.{bytes_of, same, code_in, code_of}
use Rattle.token.specs.Numbers.{digit_of, value_after, at_most, digits_after, numeral}
use Rattle.token.specs.Floats.{some_digits, digits_behind, mantissa_of, power_of, power_at, scale_of}
use Rattle.token.specs.Tokens.{found, word_at, limit_of, is_negative, whole_at, float_by, float_at, number_by, number_at, string_at, dots_at, token_of, token_at, step_at}
use Rattle.token.specs.Lexing.{lex_n, lex_from}
use Rattle.meaning.specs.Actions.{zero_num, num_of_sort, num_of_step}
use Rattle.meaning.specs.Words.{num_at_most, least_of, greatest_of, signed, width, in_type}
use Rattle.scopes.specs.Items.{integer_coded}
use Rattle.explaining.specs.Bounds.{code_after, code_before, type_before, outside_type}

-- a text, a place, and whether the number there lies outside its type
pub record Sample : Type 0 where
  pub text : String
  pub place : ℕ
  pub outside : Bool

abbrev sample : String → ℕ → Bool → Sample
sample text place outside = record { text = text; place = place; outside = outside }

abbrev samples : List Sample
samples =
    -- the high bound, a listed number, each outside its type
    sample "UINT32 [0..4294967296] A" 11 true ∷
    sample "INT32 [1, -2147483649] A" 10 true ∷
    -- a low above its high, inside its type; outside it
    sample "UINT32 [5..4] A" 8 false ∷
    sample "UINT64 [18446744073709551615..0] A" 8 false ∷
    sample "INT64 [9223372036854775808..0] A" 7 true ∷
    -- the type's word stands before WITH_AUTO, and not in a comment
    sample "UINT32 WITH_AUTO [-1..0] A" 18 true ∷
    sample "INT32 /* UINT32 */ [-1..-2] A" 20 false ∷
    -- a FLOAT has no bound of its own
    sample "FLOAT [2.5..1.5] A" 7 false ∷ []

abbrev All : List Sample → Type 0
All [] = Unit {0}
All (x ∷ xs) = (outside_type (bytes_of x.text) x.place ≡ x.outside) × All xs

pub samples_hold : All samples
unfolding lex_from lex_n step_at skip skip_n gap_at gap_of comment_at find_byte find_close pair_at find first_of class_of is_word_byte word_end code_of code_in same digit_of value_after at_most digits_after numeral found word_at limit_of is_negative whole_at is_dotted find_mark is_signed some_digits digits_behind mantissa_of power_of power_at scale_of float_by float_at number_by number_at string_at dots_at token_of token_at zero_num num_of_sort num_of_step num_at_most least_of greatest_of signed width in_type integer_coded code_after code_before type_before outside_type
samples_hold = (refl, (refl, (refl, (refl, (refl, (refl, (refl, (refl, tt))))))))
