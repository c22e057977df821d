-- From the derivation to the syntax, a clause for each form of the grammar (document 01, "Grammar"): what a rule means is a type, `M`; what a
-- form means by what its parts mean is `means`; the meaning of trees follows by one recursion. What comes from above is an argument: how many
-- definitions (n) and enumerators (e), objects (n) and statements (k) stand before. Assumes nothing.
use Rattle.std.specs.Prelude.{List, [], ◌∷◌, Bool, true, false, ℕ, suc, ◌+◌, ◌*◌, ◌^◌, take, drop}
use Rattle.std.proofs.Math.Option.{Option, none, some}
use Rattle.token.specs.Tokens.{step_at}
use Rattle.token.specs.declared.Step.{Step}
use Rattle.token.specs.declared.Step.TheVariants.{Found, Refused, End}
use Rattle.token.specs.declared.Sort.{Sort as TokenSort}
use Rattle.token.specs.declared.Sort.TheVariants.{Word as WordToken, Number, String, Punctuator, Float}
use Rattle.grammar.specs.Grammar.{Token, Kind, OS, Integer, UINT32, Class, ordinary, numeral, quoted, floating, other, kind_word, type_word, integer_word, word, sign, Rule, rule, tok, Form, ◌▸◌, ∎, ◌⟶◌, Trees, nil, leaf, node, file, version, implementation, specs, spec, definitions, definition, attribute, D, P, auto, mark, integer_range, numbers, boolean_range, float_range, enumerator, enumerators, application, objects, object, block, statements, statement, default, own, file_is, version_is, implementation_is, no_spec, a_spec, spec_is, no_definition, a_definition, an_attribute, a_reference, an_integer, a_string, a_boolean, an_enum, a_float, reference_is, no_D, a_D, no_P, a_P, no_auto, with_auto, no_mark, a_mark, no_range, a_range, a_list, no_number, a_number, no_boolean_range, no_float_range, a_boolean_range, a_float_range, enumerator_is, no_enumerator, an_enumerator, no_default, a_default, own_auto, own_none, own_number, own_string, own_true, own_false, own_name, own_float, application_is, no_object, an_object, an_object_alone, an_object_with, no_block, a_block, no_statement, a_statement, statement_is, value_number, value_string, value_float, value_auto, value_name, value_true, value_false, reference as reference-rule, value as value-rule}
use Rattle.meaning.specs.Syntax.{Num, Word, Span, absent, through, AttributeType, integer, string, boolean, enum, float, Bounds, no_bounds, from_to, one_of, Definitions, no_more, define, Values, no_value, Defined, Statement, Statements, done, state, Spec, Object, File, definitions_in, definitions_under, enumerators_in, statements_in, value as a-value, reference as reference-to}
use Rattle.meaning.specs.Merging.{merge}

-- Words ------------------------------------------------------------------------------------------------------------------------------------

unfoldable pub zero_num : Num
zero_num = record { negative = false; amount = 0 }

-- The number that a token is: zero for what is no number.
unfoldable pub num_of_sort : TokenSort → Num
num_of_sort (WordToken c) = zero_num
num_of_sort (Number b n) = record { negative = b; amount = n }
num_of_sort String = zero_num
num_of_sort (Punctuator b) = zero_num
num_of_sort (Float b m k) = zero_num

unfoldable pub num_of_step : Step → Num
num_of_step (Found t c) = num_of_sort t.sort
num_of_step (Refused p) = zero_num
num_of_step (End n) = zero_num

-- The float that a token is: its digits m count by 10 to the k. "1.50 equals 15.0e-1" (document 02, Q-4).
unfoldable pub float_of_sort : TokenSort → Num
float_of_sort (WordToken c) = zero_num
float_of_sort (Number b n) = zero_num
float_of_sort String = zero_num
float_of_sort (Punctuator b) = zero_num
float_of_sort (Float b m k) = record { negative = b; amount = m * 10 ^ k }

unfoldable pub float_of_step : Step → Num
float_of_step (Found t c) = float_of_sort t.sort
float_of_step (Refused p) = zero_num
float_of_step (End n) = zero_num

-- The token t of the text s, with its bytes, its number and its float: the one place where the meaning looks at the text.
unfoldable pub word_of : List ℕ → Token → Word
word_of s t = record {
  class = t.class;
  bytes = take t.length (drop t.place s);
  number = num_of_step (step_at s t.place);
  float = float_of_step (step_at s t.place);
  place = t.place;
  length = t.length;
}

-- The kind of a kind's word, or of one followed by _TYPE, and the integer type of its word. A form asks for them only where the word is one.
unfoldable pub kind_of : Class → Kind
kind_of ordinary = OS
kind_of numeral = OS
kind_of quoted = OS
kind_of floating = OS
kind_of other = OS
kind_of (kind_word k) = k
kind_of (type_word k) = k
kind_of (integer_word i) = OS
kind_of (word g) = OS
kind_of (sign s) = OS

unfoldable pub integer_of : Class → Integer
integer_of ordinary = UINT32
integer_of numeral = UINT32
integer_of quoted = UINT32
integer_of floating = UINT32
integer_of other = UINT32
integer_of (kind_word k) = UINT32
integer_of (type_word k) = UINT32
integer_of (integer_word i) = i
integer_of (word g) = UINT32
integer_of (sign s) = UINT32

-- What rules mean where no type of the syntax says it.
pub record Implementation : Type 0 where
  pub span : Span
  pub name : Word
  pub specs : List Spec

-- The parts of objects, in text order.
pub record Application : Type 0 where
  pub name : Word
  pub objects : List Object

pub record IntegerRange : Type 0 where
  pub span : Span
  pub bounds : Bounds

pub record BooleanRange : Type 0 where
  pub span : Span
  pub values : Values

pub record Enumerator : Type 0 where
  pub word : Word
  pub under : Definitions

pub record Block : Type 0 where
  pub brace : Option Word
  pub inside : ℕ → Statements

pub record ValueWithBlock : Type 0 where
  pub word : Word
  pub block : Block

pub record Stated : Type 0 where
  pub statement : Statement
  pub inside : Statements

-- What each rule means.
abbrev pub M : Rule → Type 0
M file = File
M version = Word
M implementation = Implementation
M specs = ℕ → ℕ → List Spec
M spec = ℕ → ℕ → Spec
M definitions = ℕ → ℕ → Definitions
M definition = ℕ → ℕ → Defined
M attribute = ℕ → ℕ → Defined
M reference-rule = ℕ → ℕ → Defined
M D = Unit {0}
M P = ℕ → ℕ → Definitions
M auto = Bool
M mark = Bool
M integer_range = IntegerRange
M numbers = List Word
M boolean_range = ℕ → ℕ → BooleanRange
M float_range = IntegerRange
M enumerator = ℕ → ℕ → Enumerator
M enumerators = ℕ → ℕ → Values
M application = Application
M objects = ℕ → ℕ → List Object
M object = ℕ → ℕ → Object
M block = Block
M statements = ℕ → Statements
M statement = ℕ → Stated
M value-rule = ValueWithBlock
M (default s) = Option Word
M (own s) = Word

-- What the parts of a form mean: a terminal its word.
abbrev pub Parts : Form → Type 0
Parts [] = Unit {0}
Parts (tok a ∷ f) = Word × Parts f
Parts (rule x ∷ f) = M x × Parts f

-- The enumerator x, of which n definitions and e enumerators stand before, and then the others of its list.
unfoldable pub first_value : Enumerator → ℕ → ℕ → (ℕ → ℕ → Values) → Values
first_value x n e rest = a-value x.word e x.under (rest (n + definitions_in x.under) (suc e + enumerators_in x.under))

-- TRUE and FALSE with what is under them.
unfoldable pub truths : Word → (ℕ → ℕ → Definitions) → Word → (ℕ → ℕ → Definitions) → ℕ → ℕ → Values
truths t us f vs n e = let a = us n e in a-value t 0 a (a-value f 0 (vs (n + definitions_in a) (e + enumerators_in a)) no_value)

-- A definition whose values are vs: its name stands after them.
unfoldable pub defined : ℕ → Values → AttributeType → Word → Bool → Span → Bounds → Word → Bool → Option Word → Defined
defined n vs y t a r b x l d =
    record { definition = record { row = n + definitions_under vs; type = y; word = t; auto = a; range = r; bounds = b; name = x; list = l; default = d }; values = vs }

-- The definition x and then those after it.
unfoldable pub defining : Defined → ℕ → (ℕ → ℕ → Definitions) → Definitions
defining x e rest =
    define x.definition x.values (rest (suc x.definition.row) (e + enumerators_in (define x.definition x.values no_more)))

-- The spec x and then those after it.
unfoldable pub specifying : Spec → ℕ → ℕ → (ℕ → ℕ → List Spec) → List Spec
specifying x n e rest = x ∷ rest (n + definitions_in x.definitions) (e + enumerators_in x.definitions)

-- The statement x and then those after it.
unfoldable pub stating : Stated → ℕ → (ℕ → Statements) → Statements
stating x m rest = state x.statement x.inside (rest (suc m + statements_in x.inside))

-- What a form means by what its parts mean.
unfoldable pub means : {x : Rule} {g : Form} → x ⟶ g → Parts g → M x
means file_is (v, (i, (a, _))) =
    record { version = v; implementation = i.span; implementation_name = i.name; specs = i.specs; cpu = a.name; parts = a.objects; objects = merge a.objects }
-- OIL_VERSION `=` string
means version_is (_, (_, (v, _))) = v
-- IMPLEMENTATION name `{` specs `}` D `;`
means implementation_is (i, (x, (_, (ss, (_, (_, (c, _))))))) = record { span = through i c; name = x; specs = ss 0 0 }
means no_spec m = λ n e. []
means a_spec (x, (xs, _)) = λ n e. specifying (x n e) n e xs
-- kind `{` definitions `}`
means spec_is (k, (_, (ds, _))) = λ n e. record { kind = kind_of k.class; word = k; definitions = ds n e }
means no_definition m = λ n e. no_more
means a_definition (x, (xs, _)) = λ n e. defining (x n e) e xs
means an_attribute m = m.0
means a_reference m = m.0
-- type auto range name mark default
means an_integer (t, (a, (r, (x, (l, (d, _)))))) = λ n e. defined n no_value (integer (integer_of t.class)) t a r.span r.bounds x l d
means a_string (t, (a, (x, (l, (d, _))))) = λ n e. defined n no_value string t a absent no_bounds x l d
means a_boolean (t, (a, (r, (x, (l, (d, _)))))) = λ n e. let vs = r n e in defined n vs.values boolean t a vs.span no_bounds x l d
-- type auto [ enumerator enumerators ] name mark default
means an_enum (t, (a, (o, (v, (vs, (c, (x, (l, (d, _))))))))) = λ n e. defined n (first_value (v n e) n e vs) enum t a (through o c) no_bounds x l d
means reference_is (t, (x, (l, _))) = λ n e. defined n no_value (reference-to (kind_of t.class)) t false absent no_bounds x l none
-- FLOAT auto range name mark default
means a_float (t, (a, (r, (x, (l, (d, _)))))) = λ n e. defined n no_value float t a r.span r.bounds x l d
means no_float_range m = record { span = absent; bounds = no_bounds }
means a_float_range (o, (a, (_, (b, (c, _))))) = record { span = through o c; bounds = from_to a b }
means no_D m = tt
means a_D m = tt
means no_P m = λ n e. no_more
means a_P (_, (ds, _)) = ds
means no_auto m = false
means with_auto m = true
means no_mark m = false
means a_mark m = true
means no_range m = record { span = absent; bounds = no_bounds }
means a_range (o, (a, (_, (b, (c, _))))) = record { span = through o c; bounds = from_to a b }
means a_list (o, (a, (as', (c, _)))) = record { span = through o c; bounds = one_of (a ∷ as') }
means no_number m = []
means a_number (_, (a, (as', _))) = a ∷ as'
means no_boolean_range m = λ n e. record { span = absent; values = no_value }
-- [ TRUE P D , FALSE P D ]
means a_boolean_range (o, (t, (us, (_, (_, (f, (vs, (_, (c, _))))))))) = λ n e. record { span = through o c; values = truths t us f vs n e }
-- name P D
means enumerator_is (w, (us, _)) = λ n e. record { word = w; under = us n (suc e) }
means no_enumerator m = λ n e. no_value
means an_enumerator (_, (v, (vs, _))) = λ n e. first_value (v n e) n e vs
means no_default m = none
means a_default (_, (d, _)) = some d
means own_auto m = m.0
means own_none m = m.0
means own_number m = m.0
means own_string m = m.0
means own_true m = m.0
means own_false m = m.0
means own_name m = m.0
means own_float m = m.0
-- CPU name `{` objects `}`
means application_is (_, (x, (_, (os, _)))) = record { name = x; objects = os 0 0 }
means no_object m = λ n k. []
means an_object (x, (xs, _)) = λ n k. let y = x n k in y ∷ xs (suc n) (k + statements_in y.statements)
-- kind name
means an_object_alone (t, (x, _)) = λ n k.
    record { row = n; kind = kind_of t.class; word = t; name = x; block = absent; parts = 1; statements = done }
-- kind name `{` statements `}`
means an_object_with (t, (x, (o, (ss, (c, _))))) = λ n k.
    record { row = n; kind = kind_of t.class; word = t; name = x; block = through o c; parts = 1; statements = ss k }
means no_block m = record { brace = none; inside = λ k. done }
means a_block (o, (ss, _)) = record { brace = some o; inside = ss }
means no_statement m = λ k. done
means a_statement (x, (xs, _)) = λ k. stating (x k) k xs
-- name `=` value
means statement_is (x, (_, (v, _))) = λ k.
    record { statement = record { number = k; name = x; value = v.word; brace = v.block.brace }; inside = v.block.inside (suc k) }
means value_number m = record { word = m.0; block = record { brace = none; inside = λ k. done } }
means value_string m = record { word = m.0; block = record { brace = none; inside = λ k. done } }
means value_float m = record { word = m.0; block = record { brace = none; inside = λ k. done } }
means value_auto m = record { word = m.0; block = record { brace = none; inside = λ k. done } }
means value_name (t, (b, _)) = record { word = t; block = b }
means value_true (t, (b, _)) = record { word = t; block = b }
means value_false (t, (b, _)) = record { word = t; block = b }

-- The meaning of trees over the text s.
unfoldable pub meaning : {f : Form} → List ℕ → Trees ◌⟶◌ f → Parts f
meaning s nil = tt
meaning s (leaf t m ts) = (word_of s t, meaning s ts)
meaning s (node p us ts) = (means p (meaning s us), meaning s ts)

-- The syntax of a whole text's derivation.
unfoldable pub syntax : List ℕ → Trees ◌⟶◌ (file ▸ ∎) → File
syntax s ts = (meaning s ts).0
