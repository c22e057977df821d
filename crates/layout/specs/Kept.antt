-- The rows that are kept while a text is read: of each definition, enumerator, object and statement a fixed number of cells, in the order of
-- their names. No part of the public contract: the lent tables have rows of their own. Assumes nothing.
use Rattle.std.specs.Prelude.{◌≡◌, List, [], ◌∷◌, ◌++◌, Bool, true, false, ℕ, suc, ◌+◌, ◌*◌, length, replicate, eqb}
use Rattle.std.proofs.Math.Option.{Option, none, some}
use Rattle.std.proofs.lemmas.List.Edits.{sets}
use Rattle.token.specs.Find.{pick, bit}
use Rattle.grammar.specs.Grammar.{Class, Given, Sign, ordinary, numeral, quoted, floating, other, kind_word, type_word, integer_word, word, sign, OIL-VERSION, IMPLEMENTATION, CPU, STRING, BOOLEAN, ENUM, FLOAT, TRUE, FALSE, AUTO, NO-DEFAULT, WITH-AUTO, lbrace, rbrace, lsquare, rsquare, equals, semicolon, colon, comma, dots}
use Rattle.meaning.specs.Syntax.{Word, span_or, Definition, Definitions, no_more, define, Values, no_value, value, Spec, Statement, Statements, done, state, Object, File, is_enum, statements_in}
use Rattle.meaning.specs.Kinds.{kind_number}
use Rattle.meaning.specs.Defining.{specified}
use Rattle.meaning.specs.Cells.{integer_code}

-- Codes ------------------------------------------------------------------------------------------------------------------------------------

unfoldable pub given_number : Given → ℕ
given_number TRUE = 1
given_number FALSE = 2
given_number AUTO = 3
given_number NO-DEFAULT = 4
given_number WITH-AUTO = 5
given_number OIL-VERSION = 6
given_number IMPLEMENTATION = 7
given_number CPU = 8
given_number STRING = 39
given_number BOOLEAN = 40
given_number ENUM = 41
given_number FLOAT = 42

unfoldable pub sign_number : Sign → ℕ
sign_number lbrace = 45
sign_number rbrace = 46
sign_number lsquare = 47
sign_number rsquare = 48
sign_number equals = 49
sign_number semicolon = 50
sign_number colon = 51
sign_number comma = 52
sign_number dots = 53

-- The code of a word, by its class: that of the look at its token.
unfoldable pub class_number : Class → ℕ
class_number ordinary = 0
class_number numeral = 43
class_number quoted = 44
class_number floating = 54
class_number other = 55
class_number (kind_word k) = 9 + kind_number k
class_number (type_word k) = 22 + kind_number k
class_number (integer_word i) = integer_code i
class_number (word g) = given_number g
class_number (sign s) = sign_number s

unfoldable pub code_of : Word → ℕ
code_of w = class_number w.class

-- Definitions ------------------------------------------------------------------------------------------------------------------------------

-- The list of an attribute is known by the place of its first value word, 0 where it has none.
unfoldable pub list_key : Values → ℕ
list_key no_value = 0
list_key (value w e us vs) = w.place

-- A definition where it stands: the word that it stands under, and the list that this word is a value of (0: it is a kind's).
pub record Entry : Type 0 where
  pub under : Word
  pub outer : ℕ
  pub definition : Definition
  pub values : Values

unfoldable mutual
  pub entries : Definitions → Word → ℕ → List Entry
  entries no_more u o = []
  entries (define d vs ds) u o = entries_under vs (list_key vs) ++ (record { under = u; outer = o; definition = d; values = vs } ∷ entries ds u o)

  pub entries_under : Values → ℕ → List Entry
  entries_under no_value o = []
  entries_under (value w e us vs) o = entries us w o ++ entries_under vs o

unfoldable pub spec_entries : List Spec → List Entry
spec_entries [] = []
spec_entries (x ∷ xs) = entries x.definitions x.word 0 ++ spec_entries xs

-- The words TRUE and FALSE of a BOOLEAN's list, as spans; absent for any other.
unfoldable pub truth_cells : Bool → Values → List ℕ
truth_cells true vs = 0 ∷ 0 ∷ 0 ∷ []
truth_cells false no_value = 0 ∷ 0 ∷ 0 ∷ []
truth_cells false (value t e us no_value) = t.length ∷ 0 ∷ 0 ∷ []
truth_cells false (value t e us (value f e' us' vs)) = t.length ∷ f.place ∷ f.length ∷ []

unfoldable pub default_code : Option Word → ℕ
default_code none = 0
default_code (some t) = code_of t

-- under, name, type word, list mark, WITH_AUTO, range, default, the type's code; outer, the list's key, the length of TRUE, FALSE, the default's code.
unfoldable pub definition_cells : Entry → List ℕ
definition_cells x =
    let d = x.definition in
    x.under.place ∷ x.under.length ∷ d.name.place ∷ d.name.length ∷ d.word.place ∷ d.word.length
    ∷ bit d.list ∷ bit d.auto ∷ d.range.place ∷ d.range.length
    ∷ (span_or d.default).place ∷ (span_or d.default).length ∷ code_of d.word
    ∷ x.outer ∷ list_key x.values ∷ (truth_cells (is_enum d.type) x.values ++ (default_code d.default ∷ []))

-- Enumerators ------------------------------------------------------------------------------------------------------------------------------

-- An enumerator where it stands: the key of its list, and its word.
pub record Choice : Type 0 where
  pub list : ℕ
  pub word : Word

unfoldable pub choice_if : Bool → ℕ → Word → List Choice
choice_if true o w = record { list = o; word = w } ∷ []
choice_if false o w = []

unfoldable mutual
  pub choices : Definitions → List Choice
  choices no_more = []
  choices (define d vs ds) = choices_of vs (is_enum d.type) (list_key vs) ++ choices ds

  pub choices_of : Values → Bool → ℕ → List Choice
  choices_of no_value b o = []
  choices_of (value w e us vs) b o = choice_if b o w ++ (choices us ++ choices_of vs b o)

unfoldable pub spec_choices : List Spec → List Choice
spec_choices [] = []
spec_choices (x ∷ xs) = choices x.definitions ++ spec_choices xs

unfoldable pub choice_cells : Choice → List ℕ
choice_cells x = x.list ∷ x.word.place ∷ x.word.length ∷ []

-- Statements and objects -------------------------------------------------------------------------------------------------------------------

unfoldable pub place_or : Option Word → ℕ
place_or none = 0
place_or (some t) = t.place

-- name, value, the value's code, the `{` after it (0: none), the row after the last one in its braces; of the statement that is row m.
unfoldable pub statement_cells : Statement → ℕ → List ℕ
statement_cells x after =
    x.name.place ∷ x.name.length ∷ x.value.place ∷ x.value.length ∷ code_of x.value ∷ place_or x.brace ∷ after ∷ []

-- The rows of statements, of which the first is row m.
unfoldable pub statement_rows : Statements → ℕ → List (List ℕ)
statement_rows done m = []
statement_rows (state x inside rest) m =
    statement_cells x (suc m + statements_in inside) ∷ (statement_rows inside (suc m) ++ statement_rows rest (suc m + statements_in inside))

-- kind, kind word, name, block, its number of parts; its first statement and the one after its last.
unfoldable pub object_cells : Object → ℕ → List ℕ
object_cells x m =
    kind_number x.kind ∷ x.word.place ∷ x.word.length ∷ x.name.place ∷ x.name.length ∷ x.block.place ∷ x.block.length
    ∷ x.parts ∷ m ∷ (m + statements_in x.statements) ∷ []

-- The rows of objects, before which m statements stand.
unfoldable pub object_rows : List Object → ℕ → List (List ℕ)
object_rows [] m = []
object_rows (x ∷ xs) m = object_cells x m ∷ object_rows xs (m + statements_in x.statements)

unfoldable pub all_statement_rows : List Object → ℕ → List (List ℕ)
all_statement_rows [] m = []
all_statement_rows (x ∷ xs) m = statement_rows x.statements m ++ all_statement_rows xs (m + statements_in x.statements)

-- Tables -----------------------------------------------------------------------------------------------------------------------------------

unfoldable pub join : List (List ℕ) → List ℕ
join [] = []
join (r ∷ rs) = r ++ join rs

-- Each row has w cells.
abbrev pub Wide : ℕ → List (List ℕ) → Type 0
Wide w [] = Unit {0}
Wide w (r ∷ rs) = (length r ≡ w) × Wide w rs

unfoldable pub map_cells : {A : Type 0} → (A → List ℕ) → List A → List (List ℕ)
map_cells f [] = []
map_cells f (x ∷ xs) = f x ∷ map_cells f xs

-- The rows in a table of n cells that was zero before: what is past its end is not kept.
unfoldable pub kept : ℕ → List (List ℕ) → List ℕ
kept n rs = sets (replicate n 0) 0 (join rs)

unfoldable pub kept_definitions : File → List ℕ
kept_definitions f = kept (513 * 19) (map_cells definition_cells (spec_entries f.specs))

unfoldable pub kept_enumerators : File → List ℕ
kept_enumerators f = kept (1025 * 3) (map_cells choice_cells (spec_choices f.specs))

unfoldable pub kept_objects : File → List ℕ
kept_objects f = kept (257 * 10) (object_rows f.objects 0)

unfoldable pub kept_statements : File → List ℕ
kept_statements f = kept (2049 * 7) (all_statement_rows f.objects 0)

-- The rows of the parts of objects, and of their statements, as they stand in the text.
unfoldable pub kept_parts : File → List ℕ
kept_parts f = kept (513 * 10) (object_rows f.parts 0)

unfoldable pub kept_part_statements : File → List ℕ
kept_part_statements f = kept (2049 * 7) (all_statement_rows f.parts 0)

-- How many there are in all.
unfoldable pub statement_count : List Object → ℕ
statement_count [] = 0
statement_count (x ∷ xs) = statements_in x.statements + statement_count xs

-- The place of each kind's word, by the kind's number: that of the first spec of the kind, 0 where there is none.
unfoldable pub kind_place : ℕ → List Spec → ℕ
kind_place k [] = 0
kind_place k (x ∷ xs) = let r = kind_place k xs in pick (eqb k (kind_number x.kind)) x.word.place r

-- The place of the first kind word that comes a second time, 0 where none does; before are the specs before.
unfoldable pub again_place : List Spec → List Spec → ℕ
again_place before [] = 0
again_place before (x ∷ xs) = let r = again_place (before ++ (x ∷ [])) xs in pick (specified x before) x.word.place r
