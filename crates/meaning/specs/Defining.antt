-- The implementation: the rows of definitions and enumerators, and the stage of 6 to 9 and 21 to 23, its faults in the order of their places (document 01,
-- "Meaning" and "Refusals and their order"). Assumes nothing.
use Rattle.std.specs.Prelude.{List, [], ◌∷◌, ◌++◌, Bool, true, false, not, ℕ, eqb}
use Rattle.std.proofs.Math.Option.{Option, none, some}
use Rattle.grammar.specs.Grammar.{Integer}
use Rattle.token.specs.Find.{pick, both, either}
use Rattle.token.specs.Words.{bytes_of, same}
use Rattle.meaning.specs.Syntax.{Word, Span, span_of, span_or, AttributeType, integer, string, boolean, enum, float, reference, Bounds, no_bounds, from_to, one_of, Definition, Definitions, no_more, define, Values, no_value, value, Spec, File, is_enum}
use Rattle.meaning.specs.Words.{alike, among, num_at_most, in_type}
use Rattle.meaning.specs.Kinds.{same_kind}
use Rattle.meaning.specs.Faults.{Fault, faults_if}
use Rattle.meaning.specs.Scopes.{Sort, a_number, a_string, a_truth, an_auto, a_no_default, a_name, a_float, sort_of, fits, heads}

-- Rows -------------------------------------------------------------------------------------------------------------------------------------

-- "A definition row holds the kind or value word it stands under, its name, type, list mark, WITH_AUTO, range and default".
pub record DefinitionRow : Type 0 where
  pub under : Span
  pub name : Span
  pub type : Span
  pub list : Bool
  pub auto : Bool
  pub range : Span
  pub default : Span
  -- what the type's word says
  pub typed : AttributeType

-- "an enumerator row its attribute and name".
pub record EnumeratorRow : Type 0 where
  pub attribute : ℕ
  pub name : Span

unfoldable pub definition_row : Word → Definition → DefinitionRow
definition_row u d = record {
  under = span_of u;
  name = span_of d.name;
  type = span_of d.word;
  list = d.list;
  auto = d.auto;
  range = d.range;
  default = span_or d.default;
  typed = d.type;
}

-- "their rows stand, in the order of their names in the text": what is under the values of a definition stands before it.
unfoldable mutual
  pub definition_rows : Definitions → Word → List DefinitionRow
  definition_rows no_more u = []
  definition_rows (define d vs ds) u = definition_rows_under vs ++ (definition_row u d ∷ definition_rows ds u)

  pub definition_rows_under : Values → List DefinitionRow
  definition_rows_under no_value = []
  definition_rows_under (value w e us vs) = definition_rows us w ++ definition_rows_under vs

-- "an enumerator row its attribute and name": the row of the word w, of the attribute a. TRUE and FALSE have none.
unfoldable pub enumerator_row : Bool → ℕ → Word → List EnumeratorRow
enumerator_row true a w = record { attribute = a; name = span_of w } ∷ []
enumerator_row false a w = []

unfoldable mutual
  pub enumerator_rows : Definitions → List EnumeratorRow
  enumerator_rows no_more = []
  enumerator_rows (define d vs ds) = enumerator_rows_of vs (is_enum d.type) d.row ++ enumerator_rows ds

  pub enumerator_rows_of : Values → Bool → ℕ → List EnumeratorRow
  enumerator_rows_of no_value b a = []
  enumerator_rows_of (value w e us vs) b a = enumerator_row b a w ++ (enumerator_rows us ++ enumerator_rows_of vs b a)

-- The two tables, "in the order of their names in the text".
unfoldable pub all_definition_rows : List Spec → List DefinitionRow
all_definition_rows [] = []
all_definition_rows (x ∷ xs) = definition_rows x.definitions x.word ++ all_definition_rows xs

unfoldable pub all_enumerator_rows : List Spec → List EnumeratorRow
all_enumerator_rows [] = []
all_enumerator_rows (x ∷ xs) = enumerator_rows x.definitions ++ all_enumerator_rows xs

-- Faults -----------------------------------------------------------------------------------------------------------------------------------

-- 21, "bound outside the type", at "that bound"; a listed number is a bound too.
unfoldable pub outside : Integer → List Word → List Fault
outside i [] = []
outside i (t ∷ ts) = faults_if (not (in_type i t.number)) t 21 ++ outside i ts

-- 21, "low above high", at "the low".
unfoldable pub bound_faults : Integer → Bounds → List Fault
bound_faults i no_bounds = []
bound_faults i (from_to a b) = faults_if (not (num_at_most a.number b.number)) a 21 ++ outside i (a ∷ b ∷ [])
bound_faults i (one_of ts) = outside i ts

-- The same of two floats; FLOAT has no bound of its own.
unfoldable pub low_faults : Bounds → List Fault
low_faults no_bounds = []
low_faults (from_to a b) = faults_if (not (num_at_most a.float b.float)) a 21
low_faults (one_of ts) = []

unfoldable pub range_faults : AttributeType → Bounds → List Fault
range_faults (integer i) b = bound_faults i b
range_faults string b = []
range_faults boolean b = []
range_faults enum b = []
range_faults float b = low_faults b
range_faults (reference k) b = []

-- 22, "default outside type, range or list", or 23, "AUTO without WITH_AUTO", at "the default". NO_DEFAULT is never at fault.
unfoldable pub default_wrong : Sort → Bool → Bool
default_wrong a_number b = not b
default_wrong a_string b = not b
default_wrong a_truth b = not b
default_wrong an_auto b = not b
default_wrong a_no_default b = false
default_wrong a_name b = not b
default_wrong a_float b = not b

unfoldable pub default_number : Sort → ℕ
default_number a_number = 22
default_number a_string = 22
default_number a_truth = 22
default_number an_auto = 23
default_number a_no_default = 22
default_number a_name = 22
default_number a_float = 22

unfoldable pub default_faults : Definition → Values → Option Word → List Fault
default_faults d vs none = []
default_faults d vs (some t) = faults_if (default_wrong (sort_of t.class) (fits d vs t)) t (default_number (sort_of t.class))

-- 8, "attribute in a scope .. a second time".
unfoldable pub defined_in : Word → List Definition → Bool
defined_in t [] = false
defined_in t (d ∷ ds) = either (alike d.name t) (defined_in t ds)

-- 9, "same name under two values of one attribute, type words differ from the first": the first of ds with d's name has another type word.
unfoldable pub differs : Definition → List Definition → Bool
differs d [] = false
differs d (x ∷ xs) = pick (alike x.name d.name) (not (alike x.word d.word)) (differs d xs)

-- 7 ("definition 513"), 8 and 9, at a definition's name: before are those before it in its scope, others those under the earlier values of its
-- attribute.
unfoldable pub name_faults : Definition → (others before : List Definition) → List Fault
name_faults d others before =
    faults_if (eqb d.row 512) d.name 7
    ++ (faults_if (defined_in d.name before) d.name 8
    ++ faults_if (differs d others) d.name 9)

-- 7 ("enumerator 1,025 (TRUE, FALSE not counted)") and 8 ("enumerator in a list, a second time"), at a value's word: before are those before it
-- in its list.
unfoldable pub word_faults : Bool → ℕ → Word → List Word → List Fault
word_faults enum? e w before = faults_if (both enum? (eqb e 1024)) w 7 ++ faults_if (among w before) w 8

unfoldable mutual
  pub scope_faults : Definitions → (others before : List Definition) → List Fault
  scope_faults no_more others before = []
  scope_faults (define d vs ds) others before =
      (range_faults d.type d.bounds
      ++ (value_faults vs (is_enum d.type) [] []
      ++ (name_faults d others before
      ++ default_faults d vs d.default)))
      ++ scope_faults ds others (before ++ (d ∷ []))

  pub value_faults : Values → Bool → List Word → List Definition → List Fault
  value_faults no_value enum? before others = []
  value_faults (value w e us vs) enum? before others =
      (word_faults enum? e w before ++ scope_faults us others [])
      ++ value_faults vs enum? (before ++ (w ∷ [])) (others ++ heads us)

-- 8, "kind specified .. a second time", at the kind's word; and what is in its braces.
unfoldable pub specified : Spec → List Spec → Bool
specified x [] = false
specified x (y ∷ ys) = either (same_kind x.kind y.kind) (specified x ys)

unfoldable pub spec_faults : (before : List Spec) → List Spec → List Fault
spec_faults before [] = []
spec_faults before (x ∷ xs) =
    (faults_if (specified x before) x.word 8 ++ scope_faults x.definitions [] []) ++ spec_faults (before ++ (x ∷ [])) xs

-- The stage of 6 to 9 and 21 to 23; 6 is "version string is not 2.5", at "the string".
unfoldable pub definition_faults : File → List Fault
definition_faults f = faults_if (not (same f.version.bytes (bytes_of "\"2.5\""))) f.version 6 ++ spec_faults [] f.specs
