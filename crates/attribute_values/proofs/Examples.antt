-- Texts and paths with their answers, by computation: a sentence of document 02, Q-13, each. Assumes nothing.
use mathlib.Core.Path.{◌≡◌, refl}
use mathlib.Core.List.{List, [], ◌∷◌}
use Prim.Native.Nat.{ℕ}
use Prim.Native.String.{String}
use Rattle.token.specs.Words.{bytes_of}
use Rattle.meaning.specs.Reading.{Parsed, parse}
use Rattle.meaning.proofs.Everything.{everything}
use Rattle.attribute_values.specs.Paths.{in_front, steps, name_of, mark_of, entry_mark, picks}
use Rattle.attribute_values.specs.Values.{onward, leads_to, by_steps, is_called, value_among, value_of}
use Rattle.attribute_values.specs.Results.{Outcome, untouched, text_of, copied, told, value_answered, value_parsed, value_text}
use Rattle.rows.specs.Refusing.{refusing}
use Rattle.attribute_values.specs.Answered.{no_value, of_length}

unfoldable all : Unit {0}
unfolding everything in_front steps name_of mark_of entry_mark picks onward leads_to by_steps is_called value_among value_of untouched text_of copied told value_answered value_parsed value_text
all = tt

abbrev sample : List ℕ
sample = bytes_of "OIL_VERSION=\"2.5\";IMPLEMENTATION m{OS{UINT32 x=0x10;STRING s[];STRING u[];ENUM[A{UINT32 y[]=3;FLOAT f=1.50;},B]e=A;OS_TYPE r[];UINT32 WITH_AUTO w=AUTO;ENUM[A{UINT32 y;}]g[];};};CPU c{OS o{s=\"a\";s=\"\";r=o;g=A{y=5;};g=A{y=6;};};APPMODE a;};"

-- The answers for the object o of the kind OS, where four bytes are lent, to each of these paths.
unfoldable asked : Parsed → List String → List Outcome
asked x [] = []
asked x (p ∷ ps) = value_parsed x (bytes_of "OS") (bytes_of "o") (bytes_of p) (1 ∷ 2 ∷ 3 ∷ 4 ∷ []) ∷ asked x ps

abbrev lost : Outcome
lost = record { result = no_value; output = 1 ∷ 2 ∷ 3 ∷ 4 ∷ [] }

abbrev copy : ℕ → List ℕ → Outcome
copy n l = record { result = of_length n; output = l }

-- "copied as normal text writes it, without what is under it": a number in decimal, a string with its quotes, an enumerator's word alone, a float's bytes, a
-- reference, AUTO.
as_written : asked (parse sample) ("x" ∷ "s" ∷ "e" ∷ "e.f" ∷ "r" ∷ "w" ∷ [])
    ≡ copy 2 (49 ∷ 54 ∷ 3 ∷ 4 ∷ []) ∷ copy 3 (34 ∷ 97 ∷ 34 ∷ 4 ∷ []) ∷ copy 1 (65 ∷ 2 ∷ 3 ∷ 4 ∷ []) ∷ copy 4 (49 ∷ 46 ∷ 53 ∷ 48 ∷ []) ∷ copy 1 (111 ∷ 2 ∷ 3 ∷ 4 ∷ [])
    ∷ copy 4 (65 ∷ 85 ∷ 84 ∷ 79 ∷ []) ∷ []
unfolding all asked
as_written = refl

-- "`[n]` .. after a name picks a list's entry from 0; without it, entry 0", at every step.
entries : asked (parse sample) ("s[0]" ∷ "s[1]" ∷ "g.y" ∷ "g[1].y" ∷ "g[1]" ∷ "e.y" ∷ "e.y[0]" ∷ [])
    ≡ copy 3 (34 ∷ 97 ∷ 34 ∷ 4 ∷ []) ∷ copy 2 (34 ∷ 34 ∷ 3 ∷ 4 ∷ []) ∷ copy 1 (53 ∷ 2 ∷ 3 ∷ 4 ∷ []) ∷ copy 1 (54 ∷ 2 ∷ 3 ∷ 4 ∷ []) ∷ copy 1 (65 ∷ 2 ∷ 3 ∷ 4 ∷ [])
    ∷ copy 1 (51 ∷ 2 ∷ 3 ∷ 4 ∷ []) ∷ copy 1 (51 ∷ 2 ∷ 3 ∷ 4 ∷ []) ∷ []
unfolding all asked
entries = refl

-- An entry past the end, an empty list; "after a single attribute".
no_entry : asked (parse sample) ("s[2]" ∷ "u" ∷ "u[0]" ∷ "x[0]" ∷ "e[0].y" ∷ []) ≡ lost ∷ lost ∷ lost ∷ lost ∷ lost ∷ []
unfolding all asked
no_entry = refl

-- "decimal without leading zeros"; "in a path of another form".
other_forms : asked (parse sample) ("s[00]" ∷ "s[01]" ∷ "s[]" ∷ "s[ 0]" ∷ "s [0]" ∷ "s[+0]" ∷ "s[0" ∷ "s0]" ∷ "s[0][0]" ∷ "s[0]x" ∷ "" ∷ "." ∷ "x." ∷ ".x" ∷ "e..y" ∷ "[0]" ∷ "s[18446744073709551616]" ∷ [])
    ≡ lost ∷ lost ∷ lost ∷ lost ∷ lost ∷ lost ∷ lost ∷ lost ∷ lost ∷ lost ∷ lost ∷ lost ∷ lost ∷ lost ∷ lost ∷ lost ∷ lost ∷ []
unfolding all asked
other_forms = refl

-- Nothing is under a number, a reference or AUTO; a name of another scope, another case.
nothing_there : asked (parse sample) ("x.y" ∷ "r.x" ∷ "w.x" ∷ "y" ∷ "X" ∷ []) ≡ lost ∷ lost ∷ lost ∷ lost ∷ lost ∷ []
unfolding all asked
nothing_there = refl

-- "by kind, object name": another kind, a word that is no kind's, another name.
other_objects : value_text sample (bytes_of "APPMODE") (bytes_of "o") (bytes_of "x") [] ≡ record { result = no_value; output = [] }
unfolding all
other_objects = refl

no_kind : value_text sample (bytes_of "os") (bytes_of "o") (bytes_of "x") [] ≡ record { result = no_value; output = [] }
unfolding all
no_kind = refl

-- "A buffer too short gets refusal 20; that .. touch nothing."
one_byte : value_text sample (bytes_of "OS") (bytes_of "o") (bytes_of "x") (7 ∷ []) ≡ record { result = refusing 20 0; output = 7 ∷ [] }
unfolding all
one_byte = refl

-- "A refused text gives its refusal", before not found and 20.
refused_first : value_text (bytes_of "OIL_VERSION=\"2.5\";IMPLEMENTATION m{};CPU c{};") (bytes_of "OS") (bytes_of "o") [] [] ≡ record { result = refusing 17 41; output = [] }
unfolding all
refused_first = refl
