-- Scopes (document 01, "Meaning": "Scope: an object's statements belong to the definitions of its kind; statements in braces after a value
-- belong to the definitions under that value"), and which values an attribute takes. Assumes nothing.
use Rattle.std.specs.Prelude.{List, [], ◌∷◌, Bool, true, false, ℕ}
use Rattle.std.proofs.Math.Option.{Option, none, some}
use Rattle.grammar.specs.Grammar.{Kind, Class, Given, ordinary, numeral, quoted, floating, other, kind_word, type_word, integer_word, word, sign, OIL-VERSION, IMPLEMENTATION, CPU, STRING, BOOLEAN, ENUM, FLOAT, TRUE, FALSE, AUTO, NO-DEFAULT, WITH-AUTO}
use Rattle.token.specs.Find.{pick, both, is_there}
use Rattle.meaning.specs.Syntax.{Num, Word, AttributeType, integer, string, boolean, enum, float, reference, Bounds, Definition, Definitions, no_more, define, Values, no_value, value, Defined, Statements, done, state, Spec, Object, is_enum}
use Rattle.meaning.specs.Words.{alike, in_type, in_bounds, in_float_bounds}
use Rattle.meaning.specs.Kinds.{same_kind}

-- Definitions in scope ---------------------------------------------------------------------------------------------------------------------

-- "an object's statements belong to the definitions of its kind": none where the kind is not specified.
unfoldable pub of_kind : Kind → List Spec → Definitions
of_kind k [] = no_more
of_kind k (x ∷ xs) = let r = of_kind k xs in pick (same_kind k x.kind) x.definitions r

-- The value of a list that has the word t: its own word, its row and the definitions under it.
pub record Under : Type 0 where
  pub word : Word
  pub number : ℕ
  pub definitions : Definitions

unfoldable pub find_value : Values → Word → Option Under
find_value no_value t = none
find_value (value w e us vs) t = let r = find_value vs t in pick (alike w t) (some (record { word = w; number = e; definitions = us })) r

-- "the definitions under that value": none where no value of the list has that word, so "BOOLEAN without a list has nothing under it".
unfoldable pub definitions_or : Option Under → Definitions
definitions_or none = no_more
definitions_or (some u) = u.definitions

unfoldable pub under : Values → Word → Definitions
under vs t = definitions_or (find_value vs t)

-- The definition that a name has in a scope: what "name not defined in its scope" asks for.
unfoldable pub find_definition : Definitions → Word → Option Defined
find_definition no_more t = none
find_definition (define d vs ds) t = let r = find_definition ds t in pick (alike d.name t) (some (record { definition = d; values = vs })) r

-- The definitions of a scope, without what is under their values.
unfoldable pub heads : Definitions → List Definition
heads no_more = []
heads (define d vs ds) = d ∷ heads ds

-- The names of a block's own statements, also of one at fault: "for 16 it counts as stated".
unfoldable pub names : Statements → List Word
names done = []
names (state x inside rest) = x.name ∷ names rest

-- "A reference names an object of its own kind, earlier or later in the text."
unfoldable pub find_object : Kind → List Object → Word → Option Object
find_object k [] t = none
find_object k (x ∷ xs) t = let r = find_object k xs t in pick (both (same_kind k x.kind) (alike x.name t)) (some x) r

-- Values ------------------------------------------------------------------------------------------------------------------------------------

-- What a value or a default is: "a number, string, AUTO, or a name, TRUE or FALSE", or NO_DEFAULT; a float.
pub data Sort : Type 0 where
  a_number a_string a_truth an_auto a_no_default a_name a_float : Sort

unfoldable pub sort_of_word : Given → Sort
sort_of_word OIL-VERSION = a_name
sort_of_word IMPLEMENTATION = a_name
sort_of_word CPU = a_name
sort_of_word STRING = a_name
sort_of_word BOOLEAN = a_name
sort_of_word ENUM = a_name
sort_of_word FLOAT = a_name
sort_of_word TRUE = a_truth
sort_of_word FALSE = a_truth
sort_of_word AUTO = an_auto
sort_of_word NO-DEFAULT = a_no_default
sort_of_word WITH-AUTO = a_name

unfoldable pub sort_of : Class → Sort
sort_of ordinary = a_name
sort_of numeral = a_number
sort_of quoted = a_string
sort_of floating = a_float
sort_of other = a_name
sort_of (kind_word k) = a_name
sort_of (type_word k) = a_name
sort_of (integer_word i) = a_name
sort_of (word g) = sort_of_word g
sort_of (sign s) = a_name

unfoldable pub is_string : AttributeType → Bool
is_string (integer i) = false
is_string string = true
is_string boolean = false
is_string enum = false
is_string float = false
is_string (reference k) = false

unfoldable pub is_boolean : AttributeType → Bool
is_boolean (integer i) = false
is_boolean string = false
is_boolean boolean = true
is_boolean enum = false
is_boolean float = false
is_boolean (reference k) = false

-- "Integer bounds are the type's and the range's": a number is in both.
unfoldable pub fits_number : AttributeType → Bounds → Num → Bool
fits_number (integer i) b n = both (in_type i n) (in_bounds n b)
fits_number string b n = false
fits_number boolean b n = false
fits_number enum b n = false
fits_number float b n = false
fits_number (reference k) b n = false

-- A float is in the range of a FLOAT, both ends included; "A whole number is no value for a FLOAT" (document 02, Q-4), nor a float for another.
unfoldable pub fits_float : AttributeType → Bounds → Num → Bool
fits_float (integer i) b n = false
fits_float string b n = false
fits_float boolean b n = false
fits_float enum b n = false
fits_float float b n = in_float_bounds n b
fits_float (reference k) b n = false

-- By the value's sort: a number for an integer type, in its bounds; a string for STRING; TRUE or FALSE for BOOLEAN; AUTO with WITH_AUTO; an
-- enumerator of the list for ENUM; a float for FLOAT, in its range.
unfoldable pub fits_as : Sort → Definition → Values → Word → Bool
fits_as a_number d vs t = fits_number d.type d.bounds t.number
fits_as a_string d vs t = is_string d.type
fits_as a_truth d vs t = is_boolean d.type
fits_as an_auto d vs t = d.auto
fits_as a_no_default d vs t = false
fits_as a_float d vs t = fits_float d.type d.bounds t.float
fits_as a_name d vs t = both (is_enum d.type) (is_there (find_value vs t))

-- The attribute d with the values vs of its list, no reference, takes the value t: else 15, "wrong sort of value, out of range, unknown
-- enumerator, AUTO not allowed".
unfoldable pub fits : Definition → Values → Word → Bool
fits d vs t = fits_as (sort_of t.class) d vs t
