-- The syntax of a text: what its derivation holds, without the signs that only part things (document 01, "Grammar" and "Meaning").
-- Definitions, enumerators, objects and statements bear their numbers, counted from 0 "in the order of their names in the text".
-- Assumes nothing.
use Rattle.std.specs.Prelude.{List, Bool, true, false, ℕ, suc, ◌+◌, ◌-◌}
use Rattle.std.proofs.Math.Option.{Option, none, some}
use Rattle.token.specs.Find.{bit}
use Rattle.grammar.specs.Grammar.{Class, Kind, Integer}

-- Words ------------------------------------------------------------------------------------------------------------------------------------

-- A number: its sign and its amount. Zero is not negative.
pub record Num : Type 0 where
  pub negative : Bool
  pub amount : ℕ

-- A token of the text with its bytes, the number that it is (zero for what is no number), and the float that it is, as a number of parts of which
-- 10 to the 82 are one (zero for what is no float): every float is a whole number of them, and so "Comparison is exact" (document 02, Q-4).
-- Rules compare classes, bytes, numbers and floats; places and lengths are only reported.
pub record Word : Type 0 where
  pub class : Class
  pub bytes : List ℕ
  pub number : Num
  pub float : Num
  pub place : ℕ
  pub length : ℕ

-- "Words, ranges and blocks are held as place and length." What is absent is held as 0 and 0.
pub record Span : Type 0 where
  pub place : ℕ
  pub length : ℕ

unfoldable pub absent : Span
absent = record { place = 0; length = 0 }

unfoldable pub span_of : Word → Span
span_of t = record { place = t.place; length = t.length }

unfoldable pub span_or : Option Word → Span
span_or none = absent
span_or (some t) = span_of t

-- From the first byte of one word through the last of another: a range from `[` through `]`, a block from `{` through `}`.
unfoldable pub through : Word → Word → Span
through t u = record { place = t.place; length = (u.place + u.length) - t.place }

-- Definitions ------------------------------------------------------------------------------------------------------------------------------

-- "types: UINT32, INT32, UINT64, INT64 ..; STRING ..; BOOLEAN ..; ENUM .." and "reference: a kind followed by `_TYPE`"; FLOAT (document 02, Q-4).
pub data AttributeType : Type 0 where
  integer : Integer → AttributeType
  string boolean enum float : AttributeType
  reference : Kind → AttributeType

-- A float's range: nothing, or "two floats" (document 02, Q-4). An integer's range: "nothing, `[` number `..` number `]` or `[` one or more numbers parted by commas `]`".
pub data Bounds : Type 0 where
  no_bounds : Bounds
  from_to : Word → Word → Bounds
  one_of : List Word → Bounds

-- "attribute: type, WITH_AUTO or nothing, range, name, list mark .. or nothing, default", or a reference ("a reference is an attribute too"),
-- without the values of its list. The default is the word after `=`.
pub record Definition : Type 0 where
  pub row : ℕ
  pub type : AttributeType
  pub word : Word
  pub auto : Bool
  pub range : Span
  pub bounds : Bounds
  pub name : Word
  pub list : Bool
  pub default : Option Word

-- "A definition may hold an ENUM whose enumerators hold definitions again": definitions, each with the values of its list (enumerators, or
-- TRUE and FALSE), and each value with its word, its row (0 for TRUE and FALSE, which have none) and the definitions under it.
mutual
  pub data Definitions : Type 0 where
    no_more : Definitions
    define : Definition → Values → Definitions → Definitions

  pub data Values : Type 0 where
    no_value : Values
    value : Word → ℕ → Definitions → Values → Values

-- A definition with the values of its list.
pub record Defined : Type 0 where
  pub definition : Definition
  pub values : Values

-- "spec: kind `{` definitions `}`".
pub record Spec : Type 0 where
  pub kind : Kind
  pub word : Word
  pub definitions : Definitions

-- Objects ----------------------------------------------------------------------------------------------------------------------------------

-- "statement: name `=` value": its name, its value's word, and the `{` after it; without the statements in its braces.
pub record Statement : Type 0 where
  pub number : ℕ
  pub name : Word
  pub value : Word
  pub brace : Option Word

-- Statements, each with those in its braces.
pub data Statements : Type 0 where
  done : Statements
  state : Statement → Statements → Statements → Statements

-- "object: kind name .. or kind name `{` statements `}`". What a text has is a part, an object of one part whose row is its number among the
-- parts; parts of one kind and name are one object (Merging).
pub record Object : Type 0 where
  pub row : ℕ
  pub kind : Kind
  pub word : Word
  pub name : Word
  pub block : Span
  pub parts : ℕ
  pub statements : Statements

-- "file: version, implementation, application, end."
pub record File : Type 0 where
  -- the string after OIL_VERSION =
  pub version : Word
  -- from IMPLEMENTATION through its semicolon
  pub implementation : Span
  pub implementation_name : Word
  pub specs : List Spec
  -- the name after CPU
  pub cpu : Word
  -- what stands in the CPU's braces
  pub parts : List Object
  -- the parts of one kind and name as one object
  pub objects : List Object

-- How many there are -----------------------------------------------------------------------------------------------------------------------

unfoldable mutual
  pub definitions_in : Definitions → ℕ
  definitions_in no_more = 0
  definitions_in (define d vs ds) = suc (definitions_under vs + definitions_in ds)

  pub definitions_under : Values → ℕ
  definitions_under no_value = 0
  definitions_under (value w e us vs) = definitions_in us + definitions_under vs

unfoldable pub is_enum : AttributeType → Bool
is_enum (integer i) = false
is_enum string = false
is_enum boolean = false
is_enum enum = true
is_enum float = false
is_enum (reference k) = false

unfoldable mutual
  pub enumerators_in : Definitions → ℕ
  enumerators_in no_more = 0
  enumerators_in (define d vs ds) = enumerators_under vs (is_enum d.type) + enumerators_in ds

  pub enumerators_under : Values → Bool → ℕ
  -- One for each enumerator: "TRUE, FALSE not counted".
  enumerators_under no_value b = 0
  enumerators_under (value w e us vs) b = bit b + (enumerators_in us + enumerators_under vs b)

-- "At most 2,048 statements, nested ones counted."
unfoldable pub statements_in : Statements → ℕ
statements_in done = 0
statements_in (state x inside rest) = suc (statements_in inside + statements_in rest)
