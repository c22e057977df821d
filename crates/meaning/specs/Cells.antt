-- The rows of the four tables as cells, numbers of a fixed width a row; what document 01 leaves free of them is named in docs/TABLES.md.
-- Assumes nothing.
use Rattle.std.specs.Prelude.{List, [], ◌∷◌, ◌++◌, Bool, true, false, ℕ, zero, suc, ◌+◌, ◌-◌, ◌*◌, length}
use Rattle.token.specs.Find.{bit}
use Rattle.grammar.specs.Grammar.{Integer, UINT32, INT32, UINT64, INT64}
use Rattle.meaning.specs.Syntax.{AttributeType, integer, boolean, enum, float as float_type, reference, string as string-type}
use Rattle.meaning.specs.Kinds.{kind_number}
use Rattle.meaning.specs.Defining.{DefinitionRow, EnumeratorRow}
use Rattle.meaning.specs.Applying.{ObjectRow}
use Rattle.meaning.specs.Resolving.{Value, number, truth, auto, string, float, enumerator, object, Owner, of_object, of_value, ValueRow}
use Rattle.meaning.specs.Answers.{Answer, accepted, refused}

-- The token reader's code of an integer type's word, and of any type's word.
unfoldable pub integer_code : Integer → ℕ
integer_code UINT32 = 35
integer_code INT32 = 36
integer_code UINT64 = 37
integer_code INT64 = 38

unfoldable pub type_code : AttributeType → ℕ
type_code (integer i) = integer_code i
type_code string-type = 39
type_code boolean = 40
type_code enum = 41
type_code float_type = 42
type_code (reference k) = 22 + kind_number k

-- Definitions: 13 cells a row.
unfoldable pub definition_cells : DefinitionRow → List ℕ
definition_cells r =
    r.under.place ∷ r.under.length ∷ r.name.place ∷ r.name.length ∷ r.type.place ∷ r.type.length
    ∷ bit r.list ∷ bit r.auto ∷ r.range.place ∷ r.range.length ∷ r.default.place ∷ r.default.length ∷ type_code r.typed ∷ []

-- Enumerators: 3 cells a row.
unfoldable pub enumerator_cells : EnumeratorRow → List ℕ
enumerator_cells r = r.attribute ∷ r.name.place ∷ r.name.length ∷ []

-- Objects: 8 cells a row.
unfoldable pub object_cells : ObjectRow → List ℕ
object_cells r =
    kind_number r.kind ∷ r.word.place ∷ r.word.length ∷ r.name.place ∷ r.name.length ∷ r.block.place ∷ r.block.length
    ∷ r.parts ∷ []

-- Resolved values: 9 cells a row. The owner's sort and row; the value's sort, sign and amount.
unfoldable pub owner_sort : Owner → ℕ
owner_sort (of_object n) = 0
owner_sort (of_value n) = 1

unfoldable pub owner_row : Owner → ℕ
owner_row (of_object n) = n
owner_row (of_value n) = n

unfoldable pub value_sort : Value → ℕ
value_sort (number n) = 0
value_sort (truth b) = 1
value_sort auto = 2
value_sort string = 3
value_sort (enumerator e) = 4
value_sort (object o) = 5
value_sort float = 6

unfoldable pub value_negative : Value → Bool
value_negative (number n) = n.negative
value_negative (truth b) = false
value_negative auto = false
value_negative string = false
value_negative float = false
value_negative (enumerator e) = false
value_negative (object o) = false

unfoldable pub value_amount : Value → ℕ
value_amount (number n) = n.amount
value_amount (truth b) = bit b
value_amount auto = 0
value_amount string = 0
value_amount float = 0
value_amount (enumerator e) = e
value_amount (object o) = o

unfoldable pub value_cells : ValueRow → List ℕ
value_cells r =
    r.definition ∷ owner_sort r.owner ∷ owner_row r.owner ∷ value_sort r.value ∷ bit (value_negative r.value) ∷ value_amount r.value
    ∷ bit r.stated ∷ r.word.place ∷ r.word.length ∷ []

-- Rooms ------------------------------------------------------------------------------------------------------------------------------------

-- The cells of the rows, one row after the other.
unfoldable pub cells : {R : Type 0} → (R → List ℕ) → List R → List ℕ
cells f [] = []
cells f (r ∷ rs) = f r ++ cells f rs

unfoldable pub zeros : ℕ → List ℕ
zeros zero = []
zeros (suc n) = 0 ∷ zeros n

-- "Unused rows are zero": a room of n cells with these rows.
unfoldable pub room_cells : {R : Type 0} → ℕ → (R → List ℕ) → List R → List ℕ
room_cells n f rs = cells f rs ++ zeros (n - length (cells f rs))

-- The cells of the four stated rooms: 512 rows of 13, 1,024 of 3, 256 of 8, 2,048 of 9.
unfoldable pub definition_room : List DefinitionRow → List ℕ
definition_room rs = room_cells (512 * 13) definition_cells rs

unfoldable pub enumerator_room : List EnumeratorRow → List ℕ
enumerator_room rs = room_cells (1024 * 3) enumerator_cells rs

unfoldable pub object_room : List ObjectRow → List ℕ
object_room rs = room_cells (256 * 8) object_cells rs

unfoldable pub value_room : List ValueRow → List ℕ
value_room rs = room_cells (2048 * 9) value_cells rs

-- The rooms after an answer: "Refusal 1 changes nothing. Others zero the table room."
pub record RoomCells : Type 0 where
  pub definitions : List ℕ
  pub enumerators : List ℕ
  pub objects : List ℕ
  pub values : List ℕ

unfoldable pub rooms_after : Answer → RoomCells
rooms_after (accepted t) = record {
  definitions = definition_room t.definitions;
  enumerators = enumerator_room t.enumerators;
  objects = object_room t.objects;
  values = value_room t.values;
}
rooms_after (refused n p) = record {
  definitions = definition_room [];
  enumerators = enumerator_room [];
  objects = object_room [];
  values = value_room [];
}
