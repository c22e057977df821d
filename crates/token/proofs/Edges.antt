-- The edges of document 01 that concern tokens, as one table: a text, the tokens that the steps from its start find, and how they end.
-- Assumes nothing.
use Prim.Native.Nat.{ℕ}
use Prim.Native.String.{String as Literal}
use mathlib.Core.Path.{◌≡◌, refl}
use mathlib.Core.List.{List, [], ◌∷◌}
use mathlib.Core.Bool.{true, false}
use Rattle.token.specs.Find.{first_of, find}
use Rattle.token.specs.Bytes.{class_of, is_word_byte, word_end, find_byte, pair_at, find_close, is_dotted, find_mark, is_signed}
use Rattle.token.specs.Gaps.{comment_at, gap_of, gap_at, skip_n, skip}
use Rattle.token.specs.Words.{bytes_of, same, code_in, code_of}
use Rattle.token.specs.Numbers.{digit_of, value_after, at_most, digits_after, numeral}
use Rattle.token.specs.Floats.{some_digits, digits_behind, mantissa_of, power_of, power_at, scale_of}
use Rattle.token.specs.Tokens.{found, word_at, limit_of, is_negative, whole_at, float_by, float_at, number_by, number_at, string_at, dots_at, token_of, token_at, step_at}
use Rattle.token.specs.Lexing.{Lexed, ended, refused, lex_n, lex_from}
use Rattle.token.proofs.Sequences.{after_all}
use Rattle.token.specs.declared.Sort.TheVariants.{Word, Number, String, Punctuator, Float}
use Rattle.token.specs.declared.Token.{Token}

pub record Edge : Type 0 where
  pub text : Literal
  pub tokens : List Token
  pub last : Lexed

abbrev edge : Literal → List Token → Lexed → Edge
edge text tokens last = record { text = text; tokens = tokens; last = last }

-- a token of each sort at a place, with its length
abbrev word : ℕ → ℕ → ℕ → Token
word code p n = record { sort = Word code; at = p; len = n }

abbrev plus : ℕ → ℕ → ℕ → Token
plus amount p n = record { sort = Number false amount; at = p; len = n }

abbrev minus : ℕ → ℕ → ℕ → Token
minus amount p n = record { sort = Number true amount; at = p; len = n }

abbrev string : ℕ → ℕ → Token
string p n = record { sort = String; at = p; len = n }

abbrev punctuator : ℕ → ℕ → ℕ → Token
punctuator b p n = record { sort = Punctuator b; at = p; len = n }

abbrev float : ℕ → ℕ → ℕ → ℕ → Token
float m k p n = record { sort = Float false m k; at = p; len = n }

abbrev negative : ℕ → ℕ → ℕ → ℕ → Token
negative m k p n = record { sort = Float true m k; at = p; len = n }

abbrev edges : List Edge
edges =
    -- the starred edges of document 01
    edge "" [] (ended 0) ∷
    edge "}" (punctuator 125 0 1 ∷ []) (ended 1) ∷
    edge "007" [] (refused 0) ∷
    edge "#" [] (refused 0) ∷
    edge "/* x" [] (refused 0) ∷
    edge "18446744073709551615" (plus 18446744073709551615 0 20 ∷ []) (ended 20) ∷
    edge "18446744073709551616" [] (refused 0) ∷
    edge "OIL_VERSION = 2;" (word 6 0 11 ∷ punctuator 61 12 1 ∷ plus 2 14 1 ∷ punctuator 59 15 1 ∷ []) (ended 16) ∷
    edge "OIL_VERSION = \"2.5\"" (word 6 0 11 ∷ punctuator 61 12 1 ∷ string 14 5 ∷ []) (ended 19) ∷
    edge "OIL_VERSION = AUTO" (word 6 0 11 ∷ punctuator 61 12 1 ∷ word 3 14 4 ∷ []) (ended 18) ∷
    -- the worked example, 54 tokens
    edge
    "OIL_VERSION = \"2.5\";\nIMPLEMENTATION m { OS { BOOLEAN H = FALSE; }; TASK { UINT32 [1..0xff] STACKSIZE = 16; }; };\nCPU c { OS o; APPMODE a {}; TASK t { STACKSIZE = 0x20; }; };\n"
    (word 6 0 11 ∷ punctuator 61 12 1 ∷ string 14 5 ∷ punctuator 59 19 1 ∷ word 7 21 14 ∷ word 0 36 1 ∷
    punctuator 123 38 1 ∷ word 9 40 2 ∷ punctuator 123 43 1 ∷ word 40 45 7 ∷ word 0 53 1 ∷ punctuator 61 55 1 ∷
    word 2 57 5 ∷ punctuator 59 62 1 ∷ punctuator 125 64 1 ∷ punctuator 59 65 1 ∷ word 11 67 4 ∷ punctuator 123 72 1 ∷
    word 35 74 6 ∷ punctuator 91 81 1 ∷ plus 1 82 1 ∷ punctuator 46 83 2 ∷ plus 255 85 4 ∷ punctuator 93 89 1 ∷
    word 0 91 9 ∷ punctuator 61 101 1 ∷ plus 16 103 2 ∷ punctuator 59 105 1 ∷ punctuator 125 107 1 ∷ punctuator 59 108 1 ∷
    punctuator 125 110 1 ∷ punctuator 59 111 1 ∷ word 8 113 3 ∷ word 0 117 1 ∷ punctuator 123 119 1 ∷ word 9 121 2 ∷
    word 0 124 1 ∷ punctuator 59 125 1 ∷ word 10 127 7 ∷ word 0 135 1 ∷ punctuator 123 137 1 ∷ punctuator 125 138 1 ∷
    punctuator 59 139 1 ∷ word 11 141 4 ∷ word 0 146 1 ∷ punctuator 123 148 1 ∷ word 0 150 9 ∷ punctuator 61 160 1 ∷
    plus 32 162 4 ∷ punctuator 59 166 1 ∷ punctuator 125 168 1 ∷ punctuator 59 169 1 ∷ punctuator 125 171 1 ∷ punctuator 59 172 1 ∷
    []) (ended 174) ∷
    -- a range is three tokens, and no number with a dot
    edge "1..0xff" (plus 1 0 1 ∷ punctuator 46 1 2 ∷ plus 255 3 4 ∷ []) (ended 7) ∷
    edge "1.0xff" [] (refused 0) ∷
    edge "..." (punctuator 46 0 2 ∷ []) (refused 2) ∷
    -- signs
    edge "-0x1" [] (refused 0) ∷
    edge "+0xff" [] (refused 0) ∷
    edge "+" [] (refused 0) ∷
    edge "- 5" [] (refused 0) ∷
    edge "-0" (plus 0 0 2 ∷ []) (ended 2) ∷
    edge "+0" (plus 0 0 2 ∷ []) (ended 2) ∷
    edge "1-2" (plus 1 0 1 ∷ minus 2 1 2 ∷ []) (ended 3) ∷
    -- bounds
    edge "-9223372036854775808" (minus 9223372036854775808 0 20 ∷ []) (ended 20) ∷
    edge "-9223372036854775809" [] (refused 0) ∷
    edge "0xffffffffffffffff" (plus 18446744073709551615 0 18 ∷ []) (ended 18) ∷
    edge "0x10000000000000000" [] (refused 0) ∷
    -- runs that are numbers, and runs that are none
    edge "0xfF" (plus 255 0 4 ∷ []) (ended 4) ∷
    edge "0x" [] (refused 0) ∷
    edge "0X1" [] (refused 0) ∷
    edge "00" [] (refused 0) ∷
    edge "12ab" [] (refused 0) ∷
    -- strings and comments
    edge "\"" [] (refused 0) ∷
    edge "\"a" [] (refused 0) ∷
    edge " \"a\n\"" (string 1 4 ∷ []) (ended 5) ∷
    edge "/*/" [] (refused 0) ∷
    edge "/**/" [] (ended 4) ∷
    edge "a//" (word 0 0 1 ∷ []) (ended 3) ∷
    edge "a // b\nc" (word 0 0 1 ∷ word 0 7 1 ∷ []) (ended 8) ∷
    edge "TA/**/SK" (word 0 0 2 ∷ word 0 6 2 ∷ []) (ended 8) ∷
    edge "\"/*\"" (string 0 4 ∷ []) (ended 4) ∷
    -- words
    edge "TASK task TASK_TYPE" (word 11 0 4 ∷ word 0 5 4 ∷ word 24 10 9 ∷ []) (ended 19) ∷
    edge "NETWORKMESSAGE_TYPE CPU_TYPE FLOAT" (word 32 0 19 ∷ word 0 20 8 ∷ word 42 29 5 ∷ []) (ended 34) ∷
    -- floats (document 02, Q-4), and what is none
    edge "1.5" (float 15 81 0 3 ∷ []) (ended 3) ∷
    edge "007.5" (float 75 81 0 5 ∷ []) (ended 5) ∷
    edge "+1.0" (float 10 81 0 4 ∷ []) (ended 4) ∷
    edge "-0.0" (float 0 81 0 4 ∷ []) (ended 4) ∷
    edge "-1.5" (negative 15 81 0 4 ∷ []) (ended 4) ∷
    edge "1.0e5" (float 10 86 0 5 ∷ []) (ended 5) ∷
    edge "1.0E+5" (float 10 86 0 6 ∷ []) (ended 6) ∷
    edge "1.0e-064" (float 10 17 0 8 ∷ []) (ended 8) ∷
    edge "1.0e64" (float 10 145 0 6 ∷ []) (ended 6) ∷
    edge "0.00000000000000001" (float 1 65 0 19 ∷ []) (ended 19) ∷
    edge "12345678901234567.8" (float 123456789012345678 81 0 19 ∷ []) (ended 19) ∷
    edge "0x1.5" [] (refused 0) ∷
    edge "1a.5" [] (refused 0) ∷
    edge "1.5x" [] (refused 0) ∷
    edge "1.5e" [] (refused 0) ∷
    edge "1.5e+" [] (refused 0) ∷
    edge "1.5e+5e+6" [] (refused 0) ∷
    edge "1.5ee+5" [] (refused 0) ∷
    edge "1.0e65" [] (refused 0) ∷
    edge "1.0e-65" [] (refused 0) ∷
    edge "1234567890123456.789" [] (refused 0) ∷
    edge "+.5" [] (refused 0) ∷
    edge "1.5_" [] (refused 0) ∷
    edge "1..2" (plus 1 0 1 ∷ punctuator 46 1 2 ∷ plus 2 3 1 ∷ []) (ended 4) ∷
    edge "1.5..2.5" (float 15 81 0 3 ∷ punctuator 46 3 2 ∷ float 25 81 5 3 ∷ []) (ended 8) ∷
    edge "1." (plus 1 0 1 ∷ []) (refused 1) ∷
    edge "1.x" (plus 1 0 1 ∷ []) (refused 1) ∷
    edge ".5" [] (refused 0) ∷
    edge "abc.5" (word 0 0 3 ∷ []) (refused 3) ∷
    edge "1.5-3" (float 15 81 0 3 ∷ minus 3 3 2 ∷ []) (ended 5) ∷
    edge "1.5e5-3" (float 15 86 0 5 ∷ minus 3 5 2 ∷ []) (ended 7) ∷
    edge "1.5.5" (float 15 81 0 3 ∷ []) (refused 3) ∷
    []

abbrev all : List Edge → Type 0
all [] = Unit {0}
all (e ∷ es) = (lex_from (bytes_of e.text) 0 ≡ after_all e.tokens e.last) × all es

pub edges_hold : all edges
unfolding after_all lex_from lex_n step_at skip skip_n gap_at gap_of comment_at find_byte find_close pair_at find first_of class_of is_word_byte word_end code_of code_in same digit_of value_after at_most digits_after numeral found word_at limit_of is_negative whole_at is_dotted find_mark is_signed some_digits digits_behind mantissa_of power_of power_at scale_of float_by float_at number_by number_at string_at dots_at token_of token_at
edges_hold = (refl, (refl, (refl, (refl, (refl, (refl, (refl, (refl, (refl, (refl, (refl, (refl, (refl, (refl, (refl, (refl, (refl, (refl, (refl, (refl, (refl, (refl, (refl, (refl, (refl, (refl, (refl, (refl, (refl, (refl, (refl, (refl, (refl, (refl, (refl, (refl, (refl, (refl, (refl, (refl, (refl, (refl, (refl, (refl, (refl, (refl, (refl, (refl, (refl, (refl, (refl, (refl, (refl, (refl, (refl, (refl, (refl, (refl, (refl, (refl, (refl, (refl, (refl, (refl, (refl, (refl, (refl, (refl, (refl, (refl, (refl, (refl, (refl, tt)))))))))))))))))))))))))))))))))))))))))))))))))))))))))))))))))))))))))
