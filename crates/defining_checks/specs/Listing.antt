-- The faults of definitions and enumerators row by row, each with the rows before it. Assumes nothing.
use Rattle.std.specs.Prelude.{List, [], ◌∷◌, ◌++◌, Bool, true, false, not, ℕ, length, eqb, leb}
use Rattle.std.proofs.Math.Option.{Option}
use Rattle.token.specs.Find.{pick, both}
use Rattle.meaning.specs.Syntax.{Word, Definition, Values, span_or}
use Rattle.meaning.specs.Faults.{Fault}
use Rattle.meaning.specs.Defining.{range_faults, name_faults, default_faults, word_faults}
use Rattle.layout.specs.Kept.{Entry, Choice}

-- Definitions ------------------------------------------------------------------------------------------------------------------------------

-- A definition, if b.
unfoldable pub keep_if : Bool → Definition → List Definition
keep_if true d = d ∷ []
keep_if false d = []

-- The definitions of the rows under the word at p: those that 8 compares a name with.
unfoldable pub under_of : ℕ → List Entry → List Definition
under_of p [] = []
under_of p (x ∷ xs) = keep_if (eqb x.under.place p) x.definition ++ under_of p xs

-- Those of the rows under the values of the list with the key o other than the one at p.
unfoldable pub others_of : (o p : ℕ) → List Entry → List Definition
others_of o p [] = []
others_of o p (x ∷ xs) = keep_if (both (eqb x.outer o) (not (eqb x.under.place p))) x.definition ++ others_of o p xs

-- Those that 9 compares a name with: a row that is a kind's is under no list's value, and has none.
unfoldable pub others_for : (o p : ℕ) → List Entry → List Definition
others_for o p xs = pick (eqb o 0) [] (others_of o p xs)

-- 7, 8 and 9 at a row's name.
unfoldable pub row_name_faults : List Entry → Entry → List Fault
row_name_faults before x =
    name_faults x.definition (others_for x.outer x.under.place before) (under_of x.under.place before)

-- A default is judged if it stands before the enumerator that is one too many, at the place limit, where there is one (full): the list of
-- its attribute has been kept as a whole.
unfoldable pub judged : Bool → ℕ → Option Word → Bool
judged full limit o = not (both full (leb limit (span_or o).place))

-- The faults at a default that is judged.
unfoldable pub judged_faults : Bool → ℕ → Definition → Values → List Fault
judged_faults full limit d vs = pick (judged full limit d.default) (default_faults d vs d.default) []

-- The faults of a row, with 22 or 23 at the default only where it is judged.
unfoldable pub kept_row_faults : Bool → ℕ → List Entry → Entry → List Fault
kept_row_faults full limit before x =
    range_faults x.definition.type x.definition.bounds
    ++ (row_name_faults before x ++ judged_faults full limit x.definition x.values)

-- Enumerators ------------------------------------------------------------------------------------------------------------------------------

-- A word, if b.
unfoldable pub word_if : Bool → Word → List Word
word_if true w = w ∷ []
word_if false w = []

-- The words of the list with the key k: those that 8 compares an enumerator with.
unfoldable pub list_of : ℕ → List Choice → List Word
list_of k [] = []
list_of k (x ∷ xs) = word_if (eqb x.list k) x.word ++ list_of k xs

-- 7 and 8 at an enumerator.
unfoldable pub choice_faults : List Choice → Choice → List Fault
choice_faults before x = word_faults true (length before) x.word (list_of x.list before)
