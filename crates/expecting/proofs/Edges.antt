-- The expected set at the refusal 4 of some texts, by computation. Assumes nothing.
use Prim.Native.Nat.{ℕ}
use Prim.Native.String.{String}
use mathlib.Core.Path.{◌≡◌, refl}
use mathlib.Core.List.{List, [], ◌∷◌}
use mathlib.Core.Bool.{Bool, true, false}
use mathlib.Core.Option.{Option}
use Rattle.token.specs.Find.{first_of, find}
use Rattle.token.specs.Bytes.{class_of, is_word_byte, word_end, find_byte, pair_at, find_close, is_dotted, find_mark, is_signed}
use Rattle.token.specs.Gaps.{comment_at, gap_of, gap_at, skip_n, skip}
use Rattle.token.specs.Words.{bytes_of, same, code_in, code_of}
use Rattle.token.specs.Numbers.{digit_of, value_after, at_most, digits_after, numeral}
use Rattle.token.specs.Floats.{some_digits, digits_behind, mantissa_of, power_of, power_at, scale_of}
use Rattle.token.specs.Tokens.{found, word_at, limit_of, is_negative, whole_at, float_by, float_at, number_by, number_at, string_at, dots_at, token_of, token_at, step_at}
use Rattle.token.specs.Lexing.{lex_n, lex_from}
use Rattle.grammar.specs.Terminals.{sign_of, class_of as classOfToken, token_of as tokenOfToken, tokens_in, tokens}
use Rattle.grammar.specs.Grammar.{Terminal, file, ◌▸◌, ∎, name, number, string, float, kind, type, integer, the, sg, OIL-VERSION, STRING, BOOLEAN, ENUM, FLOAT, TRUE, FALSE, AUTO, NO-DEFAULT, WITH-AUTO, rbrace, lsquare, rsquare, semicolon, colon, comma, dots, lbrace}
use Rattle.grammar.specs.Factored.{Symbols, paper}
use Rattle.expecting.specs.Expected.{until}
use Rattle.expecting.specs.Firsts.{admits_at, rest_after, expects, expected}
use Rattle.expecting.proofs.Firsts.{terminals}

kept_by : Bool → Terminal → List Terminal → List Terminal
kept_by true a l = a ∷ l
kept_by false a l = l

-- the terminals of which a test holds, in the order of the flags
unfoldable pub kept : (Terminal → Bool) → List Terminal → List Terminal
unfolding kept_by
kept f [] = []
kept f (a ∷ l) = kept_by (f a) a (kept f l)

unfoldable pub kept_at : Option Symbols → List Terminal
kept_at o = kept (admits_at o) terminals

-- the set as a list: what is after the tokens is computed once
unfoldable pub set_at : List ℕ → ℕ → List Terminal
set_at s p = kept_at (rest_after (paper file ▸ ∎) (until p (tokens s)))

pub set_is : (s : List ℕ) (p : ℕ) → set_at s p ≡ kept (expected s p) terminals
unfolding set_at kept_at expected expects
set_is s p = refl

pub record Edge : Type 0 where
  pub text : String
  pub place : ℕ
  pub set : List Terminal

abbrev pub edges : List Edge
edges =
    -- nothing yet
    record { text = ""; place = 0; set = the OIL-VERSION ∷ [] } ∷
    -- a number where the version's string stands
    record { text = "OIL_VERSION = 2;"; place = 14; set = string ∷ [] } ∷
    -- the text ends early after the string: its end, or a description
    record { text = "OIL_VERSION = \"2.5\""; place = 19; set = sg semicolon ∷ sg colon ∷ [] } ∷
    -- a reserved word where a name stands
    record { text = "OIL_VERSION=\"2.5\";IMPLEMENTATION AUTO{"; place = 33; set = name ∷ [] } ∷
    -- in the implementation: a kind, or its end
    record { text = "OIL_VERSION=\"2.5\";IMPLEMENTATION x{y"; place = 35; set = kind ∷ sg rbrace ∷ [] } ∷
    -- in a kind's definitions
    record { text = "OIL_VERSION=\"2.5\";IMPLEMENTATION x{OS{y"; place = 38; set = type ∷ integer ∷ the STRING ∷ the BOOLEAN ∷ the ENUM ∷ the FLOAT ∷ sg rbrace ∷ [] } ∷
    -- after an integer type, and after FLOAT
    record { text = "OIL_VERSION=\"2.5\";IMPLEMENTATION x{OS{UINT32 ;"; place = 45; set = name ∷ the WITH-AUTO ∷ sg lsquare ∷ [] } ∷
    record { text = "OIL_VERSION=\"2.5\";IMPLEMENTATION x{OS{FLOAT[1;"; place = 44; set = float ∷ [] } ∷
    -- after the first number of a range
    record { text = "OIL_VERSION=\"2.5\";IMPLEMENTATION x{OS{UINT32[1;"; place = 46; set = sg rsquare ∷ sg comma ∷ sg dots ∷ [] } ∷
    -- a default
    record { text = "OIL_VERSION=\"2.5\";IMPLEMENTATION x{OS{BOOLEAN a=1;"; place = 48; set = the TRUE ∷ the FALSE ∷ the AUTO ∷ the NO-DEFAULT ∷ [] } ∷
    -- the value of a statement
    record { text = "OIL_VERSION=\"2.5\";IMPLEMENTATION x{};CPU c{OS o{a=;"; place = 50; set = name ∷ number ∷ string ∷ float ∷ the TRUE ∷ the FALSE ∷ the AUTO ∷ [] } ∷
    -- after an object's name; a comment stands before the place
    record { text = "OIL_VERSION=\"2.5\";IMPLEMENTATION x{};CPU c{OS o/**/]"; place = 51; set = sg lbrace ∷ sg semicolon ∷ sg colon ∷ [] } ∷
    -- after the whole file nothing may stand
    record { text = "OIL_VERSION=\"2.5\";IMPLEMENTATION x{};CPU c{};;"; place = 45; set = [] } ∷ []

abbrev pub sets : List Edge → List (List Terminal)
sets [] = []
sets (e ∷ l) = e.set ∷ sets l

unfoldable pub computed : List Edge → List (List Terminal)
unfolding set_at
computed [] = []
computed (e ∷ l) = set_at (bytes_of e.text) e.place ∷ computed l

pub edges_hold : computed edges ≡ sets edges
unfolding computed set_at kept_at kept kept_by admits_at rest_after tokens tokens_in until classOfToken tokenOfToken sign_of lex_from lex_n step_at skip skip_n gap_at gap_of comment_at find_byte find_close pair_at find first_of class_of is_word_byte word_end is_dotted find_mark is_signed code_of code_in same digit_of value_after at_most digits_after numeral some_digits digits_behind mantissa_of power_of power_at scale_of found word_at limit_of is_negative whole_at float_by float_at number_by number_at string_at dots_at token_of token_at
edges_hold = refl
