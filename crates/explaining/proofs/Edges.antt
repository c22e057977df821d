-- Lines, columns and pictures of small texts, as one table: tabs, CR LF, the text's end, bytes that are not printable, a cut line, marked tokens; and characters of bytes.
-- Assumes nothing.
use Prim.Native.Nat.{ℕ}
use Prim.Native.String.{String}
use mathlib.Core.Path.{◌≡◌, refl}
use mathlib.Core.List.{List, [], ◌∷◌}
use Rattle.token.specs.Find.{first_of, find}
use Rattle.token.specs.Bytes.{class_of, is_word_byte, word_end, find_byte, pair_at, find_close, is_dotted, find_mark, is_signed}
use Rattle.token.specs.Gaps.{comment_at, gap_of, gap_at, skip_n, skip}
use Rattle.token.specs.Words.{bytes_of, same, code_in, code_of}
use Rattle.token.specs.Numbers.{digit_of, value_after, at_most, digits_after, numeral}
use Rattle.token.specs.Floats.{some_digits, digits_behind, mantissa_of, power_of, power_at, scale_of}
use Rattle.token.specs.Tokens.{found, word_at, limit_of, is_negative, whole_at, float_by, float_at, number_by, number_at, string_at, dots_at, token_of, token_at, step_at, part_of}
use Rattle.explaining.specs.Characters.{begun_by, lowest_in, highest_in, rest_of, state_after, state_of, start_of, starts, characters}
use Rattle.explaining.specs.Places.{feed_of, line_feeds, line_of, line_start, column_of, end_from, token_end, line_end, cr_before, shown_end}
use Rattle.explaining.specs.Windows.{window_from, window_to, dots_for, view_in, view_of}
use Rattle.explaining.specs.Pictures.{shown_byte, under_byte, drawn, dots, line_bytes, mark_bytes, marked, shown_line, mark_line, picture}

-- a text, a place, its line, its column, and the picture
pub record Edge : Type 0 where
  pub text : String
  pub place : ℕ
  pub line : ℕ
  pub column : ℕ
  pub shown : String

abbrev edge : String → ℕ → ℕ → ℕ → String → Edge
edge text place line column shown = record { text = text; place = place; line = line; column = column; shown = shown }

abbrev edges : List Edge
edges =
    -- the text's end: of an empty text, after the last byte, after a final LF
    edge "" 0 1 1 "\n^\n" ∷
    edge "ab" 2 1 3 "ab\n  ^\n" ∷
    edge "ab\n" 3 2 1 "\n^\n" ∷
    edge "ab\r\n" 4 2 1 "\n^\n" ∷
    -- the mark under a byte, tabs kept
    edge "ab cd" 3 1 4 "ab cd\n   ^~\n" ∷
    -- the whole token is marked, as far as it is shown, and no blank before one
    edge "\"a\tb\" c" 0 1 1 "\"a\tb\" c\n^~\t~~\n" ∷
    edge "a = bc;" 1 1 2 "a = bc;\n ^\n" ∷
    edge "\"a\nb\"" 0 1 1 "\"a\n^~\n" ∷
    edge "a\nb c\nd" 4 2 3 "b c\n  ^\n" ∷
    edge "\ta\tb" 3 1 4 "\ta\tb\n\t \t^\n" ∷
    -- CR LF is one line end, a CR that stands alone none
    edge "a\r\nb c\r\nd" 5 2 3 "b c\n  ^\n" ∷
    edge "a\rb" 2 1 3 "a?b\n  ^\n" ∷
    edge "a\r" 2 1 3 "a?\n  ^\n" ∷
    -- 72 bytes are shown whole, of a longer line the 72 around the place
    edge "123456789 123456789 123456789 123456789 123456789 123456789 123456789 12" 0 1 1 "123456789 123456789 123456789 123456789 123456789 123456789 123456789 12\n^~~~~~~~~\n" ∷
    edge "123456789 123456789 123456789 123456789 123456789 123456789 123456789 123" 73 1 74 "...23456789 123456789 123456789 123456789 123456789 123456789 123456789 123\n                                                                           ^\n" ∷
    edge "123456789 123456789 123456789 123456789 123456789 123456789 123456789 123" 36 1 37 "123456789 123456789 123456789 123456789 123456789 123456789 123456789 12...\n                                    ^~~\n" ∷
    edge "123456789 123456789 123456789 123456789 123456789 123456789 123456789 123456789" 40 1 41 "...56789 123456789 123456789 123456789 123456789 123456789 123456789 123456...\n                                       ^~~~~~~~~\n" ∷ []

abbrev Holds : Edge → Type 0
Holds e = (line_of (bytes_of e.text) e.place ≡ e.line) × (column_of (bytes_of e.text) e.place ≡ e.column) × (picture (bytes_of e.text) e.place ≡ bytes_of e.shown)

abbrev All : List Edge → Type 0
All [] = Unit {0}
All (e ∷ es) = Holds e × All es

pub edges_hold : All edges
unfolding step_at skip skip_n gap_at gap_of comment_at find_byte find_close pair_at find first_of class_of is_word_byte word_end code_of code_in same digit_of value_after at_most digits_after numeral found word_at limit_of is_negative whole_at is_dotted find_mark is_signed some_digits digits_behind mantissa_of power_of power_at scale_of float_by float_at number_by number_at string_at dots_at token_of token_at part_of begun_by lowest_in highest_in rest_of state_after state_of start_of starts characters end_from token_end feed_of line_feeds line_of line_start column_of line_end cr_before shown_end window_from window_to dots_for view_in view_of shown_byte under_byte drawn dots line_bytes mark_bytes marked shown_line mark_line picture
edges_hold =
    ((refl, refl, refl), ((refl, refl, refl), ((refl, refl, refl), ((refl, refl, refl), ((refl, refl, refl), ((refl, refl, refl), ((refl, refl, refl), ((refl, refl, refl), ((refl, refl, refl), ((refl, refl, refl), ((refl, refl, refl), ((refl, refl, refl), ((refl, refl, refl), ((refl, refl, refl), ((refl, refl, refl), ((refl, refl, refl), ((refl, refl, refl), tt)))))))))))))))))

-- Bytes, and how many characters they are: of one to four bytes each, first and last of each row of the table; none cut, overlong, a surrogate or too
-- high, where the bytes are counted.
abbrev counts : List (List ℕ × ℕ)
counts =
    ([], 0) ∷
    (97 ∷ 127 ∷ [], 2) ∷
    (194 ∷ 128 ∷ 223 ∷ 191 ∷ [], 2) ∷
    (224 ∷ 160 ∷ 128 ∷ 236 ∷ 191 ∷ 191 ∷ 237 ∷ 159 ∷ 191 ∷ 239 ∷ 128 ∷ 128 ∷ [], 4) ∷
    (240 ∷ 144 ∷ 128 ∷ 128 ∷ 243 ∷ 191 ∷ 191 ∷ 191 ∷ 244 ∷ 143 ∷ 191 ∷ 191 ∷ [], 3) ∷
    (97 ∷ 195 ∷ [], 2) ∷
    (228 ∷ 97 ∷ [], 2) ∷
    (193 ∷ 191 ∷ [], 2) ∷
    (224 ∷ 159 ∷ 191 ∷ [], 3) ∷
    (237 ∷ 160 ∷ 128 ∷ [], 3) ∷
    (240 ∷ 143 ∷ 191 ∷ 191 ∷ [], 4) ∷
    (244 ∷ 144 ∷ 128 ∷ 128 ∷ [], 4) ∷ []

abbrev AllCounted : List (List ℕ × ℕ) → Type 0
AllCounted [] = Unit {0}
AllCounted (x ∷ xs) = (characters x.0 ≡ x.1) × AllCounted xs

pub counts_hold : AllCounted counts
unfolding begun_by lowest_in highest_in rest_of state_after state_of start_of starts characters
counts_hold = (refl, (refl, (refl, (refl, (refl, (refl, (refl, (refl, (refl, (refl, (refl, (refl, tt))))))))))))
