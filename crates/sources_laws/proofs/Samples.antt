-- Lent texts and their expansion, computed: a main text and two texts with the names x and y. `|` stands for LF and `~` for `"`. Assumes nothing.
use Prim.Native.Nat.{ℕ}
use Prim.Native.String.{String as Literal}
use mathlib.Core.Path.{◌≡◌, refl}
use mathlib.Core.List.{List, [], ◌∷◌, ◌++◌}
use lib.ListN.{length}
use lib.Dec.{eqb}
use Rattle.token.specs.Find.{pick, first_of, find}
use Rattle.token.specs.Bytes.{class_of, is_word_byte, word_end, is_dotted, find_byte, pair_at, find_close}
use Rattle.token.specs.Gaps.{comment_at, gap_of, gap_at, skip_n, skip}
use Rattle.token.specs.Words.{bytes_of, same, code_in, code_of}
use Rattle.token.specs.Numbers.{digit_of, value_after, at_most, digits_after, numeral}
use Rattle.token.specs.Tokens.{found, word_at, limit_of, is_negative, whole_at, number_by, number_at, string_at, dots_at, token_of, token_at, step_at}
use Rattle.sources.specs.Lines.{is_aside, aside_at, aside_n, aside, closing, quoted, named, line_start, whole_to, after_line, line_of, hash_at, stop_n, stop_at}
use Rattle.sources.specs.Texts.{fitting, told_well, find_from, find_name, include_of, event_at}
use Rattle.sources.specs.Expanding.{up_from, origin, onto, onto_part, nothing, stopped, onto_end, with_rest, included, walk_n, walk, expand_n, inner, main_text, expanded, is_too_long, fill_by, fill_of, expansion_within, expansion_of}

abbrev marks : List ℕ → List ℕ
marks [] = []
marks (c ∷ s) = pick (eqb c 124) 10 (pick (eqb c 126) 34 c) ∷ marks s

abbrev said : Literal → List ℕ
said t = marks (bytes_of t)

-- a main text, the texts x and y; the number and place of the fault, and the expanded text through the end of the text with the fault
pub record Sample : Type 0 where
  pub main : Literal
  pub x : Literal
  pub y : Literal
  pub number : ℕ
  pub place : ℕ
  pub text : Literal

abbrev sample : Literal → Literal → Literal → ℕ → ℕ → Literal → Sample
sample m x y n p t = record { main = m; x = x; y = y; number = n; place = p; text = t }

abbrev buffer : Sample → List ℕ
buffer s = said s.main ++ (120 ∷ said s.x) ++ (121 ∷ said s.y)

abbrev lengths : Sample → List ℕ
lengths s = 0 ∷ length (said s.main) ∷ 1 ∷ length (said s.x) ∷ 1 ∷ length (said s.y) ∷ []

abbrev Holds : Sample → Type 0
Holds s =
    (expansion_of (buffer s) (lengths s) ≡ record { number = s.number; place = s.place; length = length (said s.text) })
    × ((expanded (buffer s) (lengths s)).bytes ≡ said s.text)

abbrev All : List Sample → Type 0
All [] = Unit {0}
All (s ∷ ss) = Holds s × All ss

abbrev pub samples : List Sample
samples =
    sample "a|#include ~x~|b" "c" "" 0 5 "a|c|b"
    ∷ sample "#include <x>" "c" "" 0 2 "c|"
    ∷ sample " /*d*/ #include ~y~ // e|;" "" "{" 0 3 "{|;"
    ∷ sample "#include<x>|#include ~x~ /**/|" "c|" "" 0 6 "c||c||"
    ∷ sample "a #include ~x~" "c" "" 29 2 "a #include ~x~"
    ∷ sample "/*|*/ #include ~x~" "c" "" 29 6 "/*|*/ #include ~x~"
    ∷ sample "# include ~x~" "c" "" 29 0 "# include ~x~"
    ∷ sample "#include ~~" "c" "" 27 0 "#include ~~"
    ∷ sample " #include ~z~" "c" "" 28 1 " #include ~z~"
    ∷ sample "a|#include ~x~|b" "#include <x>|c" "" 27 2 "a|#include <x>|c"
    ∷ sample "#include ~x~|~" "~a" "" 3 0 "~a"
    ∷ sample "#include ~x~|*/" ";/*" "" 3 1 ";/*"
    ∷ sample "~#include <x>~ //#" "c" "" 0 18 "~#include <x>~ //#"
    ∷ sample "#include ~x~|" "#include <y>|c" "d" 0 4 "d|c|"
    ∷ sample "007|#include <x>" "c" "" 3 0 "007|#include <x>"
    ∷ sample "#" "" "" 29 0 "#"
    ∷ sample "" "" "" 0 0 ""
    ∷ []

pub samples_hold : All samples
unfolding is_aside aside_at aside_n aside closing quoted named line_start whole_to after_line line_of hash_at stop_n stop_at fitting told_well find_from find_name include_of event_at up_from origin onto onto_part nothing stopped onto_end with_rest included walk_n walk expand_n inner main_text expanded is_too_long fill_by fill_of expansion_within step_at skip skip_n gap_at gap_of comment_at find_byte find_close pair_at find first_of class_of is_word_byte word_end code_of code_in same digit_of value_after at_most digits_after numeral found word_at limit_of is_negative whole_at number_by number_at is_dotted string_at dots_at token_of token_at
samples_hold = ((refl, refl), ((refl, refl), ((refl, refl), ((refl, refl), ((refl, refl), ((refl, refl), ((refl, refl), ((refl, refl), ((refl, refl), ((refl, refl), ((refl, refl), ((refl, refl), ((refl, refl), ((refl, refl), ((refl, refl), ((refl, refl), ((refl, refl), tt)))))))))))))))))
