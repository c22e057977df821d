-- Where an object's values, and the objects of a text, stand in the tables. Assumes nothing.
use Rattle.std.specs.Prelude.{◌≡◌, List, [], ◌∷◌, ℕ, suc, ◌+◌, ◌<◌, ◌≤◌}
use Rattle.token.specs.Find.{bit}
use Rattle.rows.specs.Table.{cell_of}
use Rattle.rows.specs.Search.{row_name}
use Rattle.grammar.specs.Grammar.{Kind}
use Rattle.meaning.specs.Syntax.{AttributeType, reference}
use Rattle.meaning.specs.Kinds.{kind_number}
use Rattle.meaning.specs.Resolving.{Value, number, truth, auto, float, enumerator, object, Taken, Resolved, end, resolved, Owner, of_value, how_many_values, string as string-value}
use Rattle.meaning.specs.Cells.{type_code, owner_sort, owner_row, value_sort, value_negative, value_amount}
use Rattle.comparing.specs.Contents.{Content}
use Rattle.comparing.specs.Keys.{row_float}

-- A value that is an object is that of a reference.
pub data Typed (y : AttributeType) : Value → Type 0 where
  a_number : {n : _} → Typed y (number n)
  a_truth : {b : _} → Typed y (truth b)
  an_auto : Typed y auto
  a_string : Typed y string-value
  a_float : Typed y float
  an_enumerator : {e : ℕ} → Typed y (enumerator e)
  an_object : {o : ℕ} (k : Kind) → y ≡ reference k → Typed y (object o)

-- Row i of the table v is that of the value t, with the text s and the definitions d.
pub record Row (s d v : List ℕ) (i : ℕ) (t : Taken) : Type 0 where
  pub sort : cell_of v 9 i 3 ≡ value_sort t.value
  pub sign : cell_of v 9 i 4 ≡ bit (value_negative t.value)
  pub amount : cell_of v 9 i 5 ≡ value_amount t.value
  pub word : row_name s v 9 7 i ≡ t.word.bytes
  pub float : row_float s v i ≡ t.word.float
  pub type : cell_of d 13 (cell_of v 9 i 0) 12 ≡ type_code t.definition.type
  pub typed : Typed t.definition.type t.value

-- Row i of the table v is that of the value t under the owner o, with the text s and the definitions d, of which there are so many.
pub record RowIs (s d v : List ℕ) (many i : ℕ) (o : Owner) (t : Taken) : Type 0 where
  pub definition : cell_of v 9 i 0 ≡ t.definition.row
  pub known : t.definition.row < many
  pub of_sort : cell_of v 9 i 1 ≡ owner_sort o
  pub of_row : cell_of v 9 i 2 ≡ owner_row o
  pub few : owner_row o ≤ 65536
  pub row : Row s d v i t
  pub list : cell_of d 13 t.definition.row 6 ≡ bit t.definition.list
  pub name : row_name s d 13 2 t.definition.row ≡ t.definition.name.bytes

-- From row i on stand these values under the owner o, each followed by what is under it.
pub data TreeAt (s d v : List ℕ) (many : ℕ) : ℕ → Owner → Resolved → Type 0 where
  no_rows : {i : ℕ} {o : Owner} → TreeAt s d v many i o end
  some_rows : {i : ℕ} {o : Owner} {t : Taken} {us rest : Resolved} → RowIs s d v many i o t → TreeAt s d v many (suc i) (of_value i) us
      → TreeAt s d v many (suc i + how_many_values us) o rest → TreeAt s d v many i o (resolved t us rest)

-- Row i of the objects o is that of the content y, with the text s.
pub record ObjectIs (s o : List ℕ) (i : ℕ) (y : Content) : Type 0 where
  pub kind : cell_of o 8 i 0 ≡ kind_number y.object.kind
  pub name : row_name s o 8 3 i ≡ y.object.name.bytes
  pub row : y.object.row ≡ i

pub data ObjectsAt (s o : List ℕ) : ℕ → List Content → Type 0 where
  no_objects : {i : ℕ} → ObjectsAt s o i []
  some_objects : {i : ℕ} {y : Content} {ys : List Content} → ObjectIs s o i y → ObjectsAt s o (i + 1) ys → ObjectsAt s o i (y ∷ ys)
