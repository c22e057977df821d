-- Words that stand alone have the class that their bytes give; what the classes of values and defaults are. Assumes nothing.
use mathlib.Core.Path.{◌≡◌, refl, sym, ◌∙◌, ap}
use mathlib.Core.Bool.{Bool, true, false, not, false≢true}
use Rattle.token.specs.Find.{both, either}
use Rattle.token.specs.Lexing.{Lexed, lex_from, more, ended, refused}
use Rattle.token.specs.declared.Sort.{Sort as TokenSort}
use Rattle.grammar.specs.Grammar.{Class, Kind, Integer, matches, the, ordinary, numeral, quoted, floating, other, kind_word, type_word, integer_word, word, sign, AUTO, NO-DEFAULT, TRUE, FALSE, name, number, string, float}
use Rattle.grammar.specs.Terminals.{class_of}
use Rattle.grammar.proofs.Choices.{all, classes, every_class}
use Rattle.meaning.specs.Syntax.{Word}
use Rattle.meaning.specs.Scopes.{Sort, a_number, a_string, a_truth, an_auto, a_no_default, a_name, a_float, sort_of, sort_of_word}
use Rattle.meaning.specs.Judging.{is_no_default}
use Rattle.reads_back.proofs.Restated.{Alone}

-- Words of the same bytes -------------------------------------------------------------------------------------------------------------------

-- The sort of the first token, or d where there is none.
unfoldable first_sort : Lexed → TokenSort → TokenSort
first_sort (more t l) d = t.sort
first_sort (ended n) d = d
first_sort (refused p) d = d

-- Of two words with the same bytes, each of which stands alone, the classes are the same.
pub alone_class : (v w : Word) → Alone v → Alone w → v.bytes ≡ w.bytes → v.class ≡ w.class
unfolding first_sort
alone_class v w a b e =
    let k : a.sort ≡ b.sort = ap (λ l. first_sort l a.sort) (sym a.one ∙ ap (λ l. lex_from l 0) e ∙ b.one) in
    a.class_is ∙ ap class_of k ∙ sym b.class_is

-- Classes -----------------------------------------------------------------------------------------------------------------------------------

-- A value of a list is a name, TRUE or FALSE.
unfoldable pub in_list : Class → Bool
in_list c = either (matches name c) (either (matches (the TRUE) c) (matches (the FALSE) c))

unfoldable is_numeral : Class → Bool
is_numeral ordinary = false
is_numeral numeral = true
is_numeral quoted = false
is_numeral floating = false
is_numeral other = false
is_numeral (kind_word k) = false
is_numeral (type_word k) = false
is_numeral (integer_word i) = false
is_numeral (word g) = false
is_numeral (sign s) = false

numeral_is : (c : Class) → is_numeral c ≡ true → c ≡ numeral
unfolding is_numeral
numeral_is ordinary h = absurd (false≢true h)
numeral_is numeral h = refl
numeral_is quoted h = absurd (false≢true h)
numeral_is floating h = absurd (false≢true h)
numeral_is other h = absurd (false≢true h)
numeral_is (kind_word k) h = absurd (false≢true h)
numeral_is (type_word k) h = absurd (false≢true h)
numeral_is (integer_word i) h = absurd (false≢true h)
numeral_is (word g) h = absurd (false≢true h)
numeral_is (sign s) h = absurd (false≢true h)

-- The forms of a value: "a number, string, AUTO, or a name, TRUE or FALSE".
pub data ValueForm (c : Class) : Type 0 where
  number_form : matches number c ≡ true → ValueForm c
  string_form : matches string c ≡ true → ValueForm c
  float_form : matches float c ≡ true → ValueForm c
  auto_form : matches (the AUTO) c ≡ true → ValueForm c
  name_form : matches name c ≡ true → ValueForm c
  true_form : matches (the TRUE) c ≡ true → ValueForm c
  false_form : matches (the FALSE) c ≡ true → ValueForm c

-- What a computation over all classes finds of those of which P holds.
by_class : (P Q : Class → Bool) → ((k : Kind) (i : Integer) → all (λ c. either (not (P c)) (Q c)) (classes k i) ≡ true) → (c : Class) → P c ≡ true → Q c ≡ true
by_class P Q h c p = go (P c) p (every_class (λ d. either (not (P d)) (Q d)) h c)
  where
    go : (b : Bool) → b ≡ true → either (not b) (Q c) ≡ true → Q c ≡ true
    go true e k = k
    go false e k = absurd (false≢true e)

-- The sort of a number.
unfoldable pub is_number : Sort → Bool
is_number a_number = true
is_number a_string = false
is_number a_float = false
is_number a_truth = false
is_number an_auto = false
is_number a_no_default = false
is_number a_name = false

-- No value of a list, and no number.
abbrev pub Apart : Class → Type 0
Apart c = (in_list c ≡ false) × (is_number (sort_of c) ≡ false)

-- A value of a list, and so no number.
abbrev pub Within : Class → Type 0
Within c = (in_list c ≡ true) × (is_number (sort_of c) ≡ false)

is_apart : Class → Bool
unfolding in_list is_number sort_of sort_of_word
is_apart c = not (either (in_list c) (is_number (sort_of c)))

is_within : Class → Bool
unfolding in_list is_number sort_of sort_of_word
is_within c = both (in_list c) (not (is_number (sort_of c)))

apart_is : (a b : Bool) → not (either a b) ≡ true → (a ≡ false) × (b ≡ false)
apart_is true b h = absurd (false≢true h)
apart_is false true h = absurd (false≢true h)
apart_is false false h = (refl, refl)

within_is : (a b : Bool) → both a (not b) ≡ true → (a ≡ true) × (b ≡ false)
within_is true true h = absurd (false≢true h)
within_is true false h = (refl, refl)
within_is false b h = absurd (false≢true h)

-- A number is a numeral.
pub number_class : (c : Class) → matches number c ≡ true → c ≡ numeral
unfolding matches is_numeral
number_class c h = numeral_is c (by_class (matches number) is_numeral (λ k i. refl) c h)

-- A number is no value of a list.
pub number_apart : (c : Class) → matches number c ≡ true → in_list c ≡ false
unfolding in_list matches
number_apart c h = ap in_list (number_class c h)

-- A string is no value of a list, and no number.
pub string_apart : (c : Class) → matches string c ≡ true → Apart c
unfolding matches is_apart
string_apart c h = apart_is _ _ (by_class (matches string) is_apart (λ k i. refl) c h)

-- Nor is a float.
pub float_apart : (c : Class) → matches float c ≡ true → Apart c
unfolding matches is_apart
float_apart c h = apart_is _ _ (by_class (matches float) is_apart (λ k i. refl) c h)

-- Nor is AUTO.
pub auto_apart : (c : Class) → matches (the AUTO) c ≡ true → Apart c
unfolding matches is_apart
auto_apart c h = apart_is _ _ (by_class (matches (the AUTO)) is_apart (λ k i. refl) c h)

-- A name may be a value of a list.
pub name_within : (c : Class) → matches name c ≡ true → Within c
unfolding matches is_within
name_within c h = within_is _ _ (by_class (matches name) is_within (λ k i. refl) c h)

-- TRUE may be one.
pub true_within : (c : Class) → matches (the TRUE) c ≡ true → Within c
unfolding matches is_within
true_within c h = within_is _ _ (by_class (matches (the TRUE)) is_within (λ k i. refl) c h)

-- FALSE may be one.
pub false_within : (c : Class) → matches (the FALSE) c ≡ true → Within c
unfolding matches is_within
false_within c h = within_is _ _ (by_class (matches (the FALSE)) is_within (λ k i. refl) c h)

-- NO_DEFAULT is no default that is taken.
pub none_taken : (c : Class) → matches (the NO-DEFAULT) c ≡ true → is_no_default (sort_of c) ≡ true
unfolding matches sort_of sort_of_word is_no_default
none_taken c h = by_class (matches (the NO-DEFAULT)) (λ d. is_no_default (sort_of d)) (λ k i. refl) c h
