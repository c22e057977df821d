-- A channel by the tables that a reading fills (document 01, "four lent tables"): the rows of resolved values of the object of a kind and name.
-- Assumes nothing.
use Rattle.std.specs.Prelude.{List, [], ◌∷◌, Bool, ℕ, zero, suc, eqb}
use Rattle.std.proofs.Math.Option.{Option, none, some}
use Rattle.token.specs.Find.{pick, both}
use Rattle.token.specs.Words.{same}
use Rattle.grammar.specs.Grammar.{Kind}
use Rattle.meaning.specs.Syntax.{Span}
use Rattle.meaning.specs.Kinds.{same_kind}
use Rattle.meaning.specs.Defining.{DefinitionRow}
use Rattle.meaning.specs.Applying.{ObjectRow}
use Rattle.meaning.specs.Resolving.{Value, number, truth, auto, string, float, enumerator, object, Owner, of_object, of_value, ValueRow}
use Rattle.meaning.specs.Normal.{part}
use Rattle.meaning.specs.Places.{each}
use Rattle.meaning.specs.Answers.{Tables}
use Rattle.channels.specs.Channels.{if_there, Key, Shown, a_number, a_truth, an_auto, a_string, a_float, an_enumerator, a_reference}

-- What a row of resolved values shows: the row of its definition, the name of its attribute, its value, and whether it was stated.
pub record RowItem : Type 0 where
  pub definition : ℕ
  pub attribute : List ℕ
  pub value : Shown
  pub stated : Bool

-- The object that a row number leads to, in the objects' table of the text s.
unfoldable pub key_row : List ℕ → ℕ → List ObjectRow → Option Key
key_row s i [] = none
key_row s zero (r ∷ rs) = some (record { kind = r.kind; name = part s r.name })
key_row s (suc i) (r ∷ rs) = key_row s i rs

unfoldable pub row_shown : List ℕ → List ObjectRow → Value → Span → Shown
row_shown s os (number n) w = a_number n
row_shown s os (truth b) w = a_truth b
row_shown s os auto w = an_auto
row_shown s os string w = a_string (part s w)
row_shown s os float w = a_float (part s w)
row_shown s os (enumerator e) w = an_enumerator e (part s w)
row_shown s os (object i) w = a_reference (key_row s i os)

-- The name in a row of the definitions' table.
unfoldable pub name_at : List ℕ → ℕ → List DefinitionRow → List ℕ
name_at s i [] = []
name_at s zero (r ∷ rs) = part s r.name
name_at s (suc i) (r ∷ rs) = name_at s i rs

unfoldable pub row_item : List ℕ → List DefinitionRow → List ObjectRow → ValueRow → RowItem
row_item s ds os r = record { definition = r.definition; attribute = name_at s r.definition ds; value = row_shown s os r.value r.word; stated = r.stated }

-- A row belongs to the object that owns it, or to that of the rows before it, where a value owns it: "each followed by what is under it".
unfoldable pub owned : ℕ → Owner → ℕ
owned c (of_object o) = o
owned c (of_value n) = c

-- The rows of the object o; those before belong to the object c.
unfoldable pub rows_of : (o c : ℕ) → List ValueRow → List ValueRow
rows_of o c [] = []
rows_of o c (r ∷ rs) = let l = rows_of o (owned c r.owner) rs in pick (eqb (owned c r.owner) o) (r ∷ l) l

-- The row of the object of the kind k and the name n, in the table of the objects, of which the first is row i.
unfoldable pub find_row : List ℕ → Kind → List ℕ → ℕ → List ObjectRow → Option ℕ
find_row s k n i [] = none
find_row s k n i (r ∷ rs) = let l = find_row s k n (suc i) rs in pick (both (same_kind k r.kind) (same (part s r.name) n)) (some i) l

-- The channel of the kind k and the name n, by the tables t of the text s.
unfoldable pub table_channel : List ℕ → Tables → Kind → List ℕ → Option (List RowItem)
table_channel s t k n = if_there (λ o. each (row_item s t.definitions t.objects) (rows_of o 0 t.values)) (find_row s k n 0 t.objects)
