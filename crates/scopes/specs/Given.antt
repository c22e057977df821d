-- The rows that were kept of a text, all of them, and where an attribute stands in them. Assumes nothing.
use Rattle.std.specs.Prelude.{◌≡◌, List, [], ◌∷◌, ℕ, ◌≤◌, ◌<◌, length, get_or}
use Rattle.grammar.specs.Grammar.{Kind}
use Rattle.meaning.specs.Syntax.{Word, Definitions, Defined, File}
use Rattle.meaning.specs.Kinds.{kind_number}
use Rattle.meaning.specs.Defining.{DefinitionRow, definition_row}
use Rattle.layout.specs.Kept.{Entry, spec_entries, spec_choices, kept_definitions, kept_enumerators, kept_objects, kept_statements, statement_count, kind_place}
use Rattle.scopes.specs.Situations.{Situation, HasDefinition, Stands}
use Rattle.scopes.specs.declared.Sizes.{Sizes}

-- The text s is f, and its definitions, enumerators and objects are in the tables d, e and o, all of them.
pub record Tables (s d e o : List ℕ) (z : Sizes) (f : File) : Type 0 where
  pub situation : Situation s f
  pub in_definitions : d ≡ kept_definitions f
  pub in_enumerators : e ≡ kept_enumerators f
  pub in_objects : o ≡ kept_objects f
  pub definitions : z.definitions ≡ length (spec_entries f.specs)
  pub enumerators : z.enumerators ≡ length (spec_choices f.specs)
  pub objects : z.objects ≡ length f.objects
  pub definitions_fit : z.definitions ≤ 512
  pub enumerators_fit : z.enumerators ≤ 1024
  pub objects_fit : z.objects ≤ 256

-- And its statements are in the table st.
pub record Given (s d e o st : List ℕ) (z : Sizes) (f : File) : Type 0 where
  pub tables : Tables s d e o z f
  pub in_statements : st ≡ kept_statements f
  pub statements_fit : statement_count f.objects ≤ 2048

-- The places of the kinds' words.
pub record Places (f : File) (ps : List ℕ) : Type 0 where
  pub place : (k : Kind) → get_or ps (kind_number k) 0 ≡ kind_place (kind_number k) f.specs

-- Row j is that of the attribute x, which stands in some scope.
pub record Attribute (f : File) (j : ℕ) (x : Defined) : Type 0 where
  pub under : Word
  pub scope : Definitions
  pub stands : Stands f.specs under scope
  pub has : HasDefinition scope x
  pub row : x.definition.row ≡ j

-- The rows of the definitions ds, without what is under their values, are below k.
abbrev pub Below : ℕ → Definitions → Type 0
Below k ds = (x : Defined) → HasDefinition ds x → x.definition.row < k

-- The rows of entries are those of the public table.
unfoldable pub entry_rows : List Entry → List DefinitionRow
entry_rows [] = []
entry_rows (x ∷ xs) = definition_row x.under x.definition ∷ entry_rows xs
