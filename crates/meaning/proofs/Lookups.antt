-- Names looked up in the tables: what a loop over the rows finds is what the scope has. Assumes nothing.
use mathlib.Core.Path.{◌≡◌, refl, sym, ◌∙◌, ap, subst}
use mathlib.Core.List.{List, [], ◌∷◌, ◌++◌}
use mathlib.Core.Bool.{Bool, true, false}
use mathlib.Core.Option.{Option, none, some}
use Prim.Native.Nat.{ℕ}
use Rattle.meaning.proofs.Unplaced.{if_there}
use Rattle.grammar.specs.Grammar.{Token, file, ◌▸◌, ∎, ◌⟶◌, Trees, tokens}
use Rattle.token.specs.Find.{pick}
use Rattle.token.specs.Words.{same}
use Rattle.meaning.proofs.Standing.{Standing, standing, Scope, select as select-under}
use Rattle.meaning.specs.Defining.{DefinitionRow, definition_row}
use Rattle.meaning.specs.Normal.{part}
use Rattle.meaning.specs.Scopes.{find_definition}
use Rattle.meaning.specs.Syntax.{span_of, Definition, Definitions, no_more, define, Values, Defined, Word}
use Rattle.meaning.specs.Words.{alike}
use Rattle.meaning.specs.Actions.{word_of, syntax}
use Rattle.meaning.proofs.Order.{Sub, sub_nil, keep, drop}
use Rattle.meaning.proofs.Sites.{bound_words, option_words, definition_words, value_words, file_words}
use Rattle.meaning.proofs.Leaves.{leaves_words, words, words_leaves}

-- Words of the text ------------------------------------------------------------------------------------------------------------------------

-- The bytes of the words are what the text has at their places.
abbrev pub InText : List ℕ → List Word → Type 0
InText s [] = Unit {0}
InText s (w ∷ l) = (w.bytes ≡ part s (span_of w)) × InText s l

text_sub : (s : List ℕ) {l m : List Word} → Sub l m → InText s m → InText s l
text_sub s sub_nil h = tt
text_sub s (keep p) h = (h.0, text_sub s p h.1)
text_sub s (drop p) h = text_sub s p h.1

words_text : (s : List ℕ) (l : List Token) → InText s (words s l)
unfolding words word_of part span_of
words_text s [] = tt
words_text s (t ∷ l) = (refl, words_text s l)

-- So it is for the words of a text's syntax.
pub syntax_text : (s : List ℕ) (t : Trees ◌⟶◌ (file ▸ ∎)) → InText s (file_words (syntax s t))
syntax_text s t = text_sub s (words_leaves s t) (subst (λ l. InText s l) (sym (leaves_words s t)) (words_text s (tokens t)))

text_front : (s : List ℕ) (a b : List Word) → InText s (a ++ b) → InText s a
text_front s [] b h = tt
text_front s (w ∷ a) b h = (h.0, text_front s a b h.1)

text_back : (s : List ℕ) (a b : List Word) → InText s (a ++ b) → InText s b
text_back s [] b h = h
text_back s (w ∷ a) b h = text_back s a b h.1

-- The words of a definition's type and name, and those of the definitions behind it.
pub name_text : (s : List ℕ) (d : Definition) (vs : Values) (ds : Definitions) → InText s (definition_words (define d vs ds))
    → (d.name.bytes ≡ part s (span_of d.name)) × InText s (definition_words ds)
unfolding definition_words
name_text s d vs ds h =
    let w = d.name ∷ option_words d.default in
    let a = d.word ∷ (bound_words d.bounds ++ (value_words vs ++ w)) in
    let k = (text_front s a (definition_words ds) h).1 in
    let m = text_back s (value_words vs) w (text_back s (bound_words d.bounds) (value_words vs ++ w) k) in
    (m.0, text_back s a (definition_words ds) h)

-- Names in the tables ----------------------------------------------------------------------------------------------------------------------

-- The first of the rows under a word that has the name t.
unfoldable pub first_standing : List ℕ → Word → List Standing → Option Standing
first_standing s t [] = none
first_standing s t (x ∷ xs) = let r = first_standing s t xs in pick (same (part s x.row.name) t.bytes) (some x) r

-- The row of a definition under the word u.
unfoldable pub row_under : Word → Defined → Standing
row_under u x = record { number = x.definition.row; row = definition_row u x.definition }

standing_finds : (s : List ℕ) (u t : Word) (ds : Definitions) → InText s (definition_words ds)
    → first_standing s t (standing u ds) ≡ if_there (row_under u) (find_definition ds t)
unfolding first_standing standing row_under definition_row find_definition alike if_there
standing_finds s u t no_more h = refl
standing_finds s u t (define d vs ds) h =
    ap (λ b. pick (same b t.bytes) (some (record { number = d.row; row = definition_row u d })) (first_standing s t (standing u ds))) (sym (name_text s d vs ds h).0)
    ∙ go (same d.name.bytes t.bytes) (standing_finds s u t ds (name_text s d vs ds h).1)
  where
    go : (b : Bool) → first_standing s t (standing u ds) ≡ if_there (row_under u) (find_definition ds t)
        → pick b (some (record { number = d.row; row = definition_row u d })) (first_standing s t (standing u ds)) ≡ if_there (row_under u) (pick b (some (record { definition = d; values = vs })) (find_definition ds t))
    go true e = refl
    go false e = e

-- In the table R: the row that a name of the scope has.
pub finds_definition : (R : List DefinitionRow) (u : Word) (ds : Definitions) (s : List ℕ) (t : Word) → InText s (definition_words ds) → Scope R u ds
    → first_standing s t (select-under u.place 0 R) ≡ if_there (row_under u) (find_definition ds t)
finds_definition R u ds s t h e = ap (first_standing s t) e ∙ standing_finds s u t ds h
