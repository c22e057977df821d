-- Demand 2, second half: normal text is accepted, gives the same values, and is its own normal text. Assumes nothing.
use Rattle.std.specs.Prelude.{◌≡◌, List, [], ◌∷◌, true, false, ℕ, ◌≤◌, length}
use Rattle.meaning.specs.Defining.{DefinitionRow, EnumeratorRow}
use Rattle.meaning.specs.Applying.{ObjectRow}
use Rattle.meaning.specs.Syntax.{absent}
use Rattle.meaning.specs.Resolving.{Value, number, truth, auto, string, float, enumerator, object, ValueRow}
use Rattle.meaning.specs.Normal.{part}
use Rattle.meaning.specs.Places.{each, unplaced_value_row, unplaced_tables}
use Rattle.meaning.specs.Answers.{Tables, accepted}
use Rattle.meaning.specs.Reading.{Answers}
use Rattle.meaning.specs.Rules.{TheAnswer, TheNormalText}

-- "places, lengths and the stated mark" left out.
unfoldable pub bare_value_row : ValueRow → ValueRow
bare_value_row r = record { definition = r.definition; owner = r.owner; value = r.value; stated = false; word = (unplaced_value_row r).word }

-- The number of parts left out too: it is one where a text is read back.
unfoldable pub bare_object_row : ObjectRow → ObjectRow
bare_object_row r = record { kind = r.kind; word = absent; name = absent; block = absent; parts = 1 }

unfoldable pub bare : Tables → Tables
bare t = record {
  definitions = (unplaced_tables t).definitions;
  enumerators = (unplaced_tables t).enumerators;
  objects = each bare_object_row t.objects;
  values = each bare_value_row t.values;
  counts = t.counts;
}

-- Words -----------------------------------------------------------------------------------------------------------------------------------

-- Rows hold words and ranges by place and length, in the text s: what is the same in another text are their bytes. An absent one has none.
-- Of a definition: the kind or value word it stands under, its name, its type and its default.
unfoldable pub definition_row_words : List ℕ → DefinitionRow → List (List ℕ)
definition_row_words s r = part s r.under ∷ part s r.name ∷ part s r.type ∷ part s r.default ∷ []

-- Of an enumerator: its name.
unfoldable pub enumerator_row_word : List ℕ → EnumeratorRow → List ℕ
enumerator_row_word s r = part s r.name

-- Of an object: its kind's word and its name. Its block is rewritten.
unfoldable pub object_row_words : List ℕ → ObjectRow → List (List ℕ)
object_row_words s r = part s r.word ∷ part s r.name ∷ []

-- "Numbers are decimal": a number is rewritten too, any other value as it stands.
unfoldable pub unless_number : Value → List ℕ → List ℕ
unless_number (number n) b = []
unless_number (truth x) b = b
unless_number auto b = b
unless_number string b = b
unless_number float b = b
unless_number (enumerator e) b = b
unless_number (object o) b = b

-- Of a resolved value: its word, unless it is a number. For a string that is the value.
unfoldable pub value_row_word : List ℕ → ValueRow → List ℕ
value_row_word s r = unless_number r.value (part s r.word)

-- The words of four tables, an entry for each row.
pub record RowWords : Type 0 where
  pub definitions : List (List (List ℕ))
  pub enumerators : List (List ℕ)
  pub objects : List (List (List ℕ))
  pub values : List (List ℕ)

-- Those of the tables t of the text s.
unfoldable pub words_of : List ℕ → Tables → RowWords
words_of s t = record {
  definitions = each (definition_row_words s) t.definitions;
  enumerators = each (enumerator_row_word s) t.enumerators;
  objects = each (object_row_words s) t.objects;
  values = each (value_row_word s) t.values;
}

-- Of a definition: its range, from `[` through `]` with all that stands between, blanks and comments too.
unfoldable pub definition_row_range : List ℕ → DefinitionRow → List ℕ
definition_row_range s r = part s r.range

-- An entry for each definition.
unfoldable pub ranges_of : List ℕ → Tables → List (List ℕ)
ranges_of s t = each (definition_row_range s) t.definitions

-- The statement ---------------------------------------------------------------------------------------------------------------------------

-- "with every value stated": each row has the mark.
abbrev pub AllStated : List ValueRow → Type 0
AllStated [] = Unit {0}
AllStated (r ∷ rs) = (r.stated ≡ true) × AllStated rs

-- For the text s with the tables t, and the text n that is written for it: "Written out with every value stated, it reads back to the same values".
pub record ReadsBack (s : List ℕ) (t : Tables) (n : List ℕ) : Type 0 where
  -- the rules accept n,
  pub back : Tables
  pub accepts : TheAnswer n (accepted back)
  -- "with every value stated",
  pub stated : AllStated back.values
  -- with the same definitions, enumerators, objects, resolved values and counts "but places, lengths and the stated mark", and numbers of parts,
  pub same : bare back ≡ bare t
  -- "read back, each number of parts is one",
  pub one_part : each (λ (r : ObjectRow). r.parts) back.objects ≡ each (λ (r : ObjectRow). 1) back.objects
  -- whose words have the same bytes,
  pub words : words_of n back ≡ words_of s t
  -- and whose ranges have the same bytes,
  pub ranges : ranges_of n back ≡ ranges_of s t
  -- and n is its own normal text
  pub again : TheNormalText n n

-- "provided the written text is at most 65,535 bytes": of every text that the rules accept, and its normal text. proofs/ReadsBack has it
-- (`texts_read_back`).
abbrev pub TextsReadBack : Type 0
TextsReadBack = (s : List ℕ) (t : Tables) → Answers s (accepted t) → (n : List ℕ) → TheNormalText s n → length n ≤ 65535 → ReadsBack s t n
