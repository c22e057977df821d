-- The words at which faults are placed, in text order, and that each stage's faults come in that order. Assumes nothing.
use mathlib.Core.List.{List, [], ◌∷◌, ◌++◌}
use mathlib.Core.Bool.{Bool, true}
use mathlib.Core.Option.{Option, none, some}
use Prim.Native.Nat.{ℕ, ◌≤◌}
use native.Mathlib.Omega.{arith}
use Rattle.grammar.specs.Grammar.{Kind, Integer}
use Rattle.meaning.proofs.Numbered.{default_high}
use Rattle.meaning.proofs.Order.{At, nowhere, on, at_append, at_none, at_if, at_only, at_more}
use Rattle.meaning.specs.Applying.{too_few, statement_faults, each_object, object_faults}
use Rattle.meaning.specs.Defining.{outside, bound_faults, low_faults, range_faults, default_number, default_faults, name_faults, word_faults, scope_faults, value_faults, spec_faults, definition_faults}
use Rattle.meaning.specs.Faults.{Fault}
use Rattle.meaning.specs.Judging.{reference_faults, brace_faults, faults_as, own_faults, and_inside, judged, judge, judge_object, judge_objects, statement_stage}
use Rattle.meaning.specs.Kinds.{kinds}
use Rattle.meaning.specs.Scopes.{Sort, a_number, a_string, a_truth, an_auto, a_no_default, a_name, a_float, sort_of, heads, under, find_definition, of_kind, names}
use Rattle.meaning.specs.Syntax.{AttributeType, integer, string, boolean, enum, float, reference, Bounds, no_bounds, from_to, one_of, Definition, Definitions, no_more, define, Values, no_value, value, Defined, Statement, Statements, done, state, Spec, Object, File, is_enum, Word}

-- The words ------------------------------------------------------------------------------------------------------------------------------

unfoldable pub bound_words : Bounds → List Word
bound_words no_bounds = []
bound_words (from_to a b) = a ∷ b ∷ []
bound_words (one_of ts) = ts

unfoldable pub option_words : Option Word → List Word
option_words none = []
option_words (some t) = t ∷ []

unfoldable mutual
  unfolding bound_words option_words

  pub definition_words : Definitions → List Word
  definition_words no_more = []
  definition_words (define d vs ds) = (d.word ∷ (bound_words d.bounds ++ (value_words vs ++ (d.name ∷ option_words d.default)))) ++ definition_words ds

  pub value_words : Values → List Word
  value_words no_value = []
  value_words (value w e us vs) = w ∷ (definition_words us ++ value_words vs)

unfoldable pub defined_words : Defined → List Word
unfolding bound_words option_words value_words
defined_words x = x.definition.word ∷ (bound_words x.definition.bounds ++ (value_words x.values ++ (x.definition.name ∷ option_words x.definition.default)))

unfoldable pub spec_words : List Spec → List Word
unfolding definition_words
spec_words [] = []
spec_words (x ∷ xs) = x.word ∷ (definition_words x.definitions ++ spec_words xs)

unfoldable pub statement_words : Statements → List Word
unfolding option_words
statement_words done = []
statement_words (state x inside rest) = x.name ∷ x.value ∷ ((option_words x.brace ++ statement_words inside) ++ statement_words rest)

unfoldable pub object_words : List Object → List Word
unfolding statement_words
object_words [] = []
object_words (x ∷ xs) = x.word ∷ x.name ∷ (statement_words x.statements ++ object_words xs)

unfoldable pub file_words : File → List Word
unfolding spec_words object_words
file_words f = (f.version ∷ spec_words f.specs) ++ (f.cpu ∷ object_words f.parts)

-- 6 to 9 and 21 to 23 --------------------------------------------------------------------------------------------------------------------------------

outside_at : (i : Integer) (ts : List Word) → At 0 ts (outside i ts)
unfolding outside
outside_at i [] = nowhere
outside_at i (t ∷ ts) = at_if _ 21 (omega arith) (on (outside_at i ts))

bound_at : (i : Integer) (b : Bounds) → At 0 (bound_words b) (bound_faults i b)
unfolding bound_faults bound_words outside
bound_at i no_bounds = nowhere
bound_at i (from_to a b) = at_if _ 21 (omega arith) (at_if _ 21 (omega arith) (on (outside_at i (b ∷ []))))
bound_at i (one_of ts) = outside_at i ts

low_at : (b : Bounds) → At 0 (bound_words b) (low_faults b)
unfolding low_faults bound_words
low_at no_bounds = nowhere
low_at (from_to a b) = at_only _ 21 a (b ∷ []) (omega arith)
low_at (one_of ts) = at_none ts

range_at : (y : AttributeType) (b : Bounds) → At 0 (bound_words b) (range_faults y b)
unfolding range_faults
range_at (integer i) b = bound_at i b
range_at string b = at_none (bound_words b)
range_at boolean b = at_none (bound_words b)
range_at enum b = at_none (bound_words b)
range_at float b = low_at b
range_at (reference k) b = at_none (bound_words b)

default_at : (d : Definition) (vs : Values) (o : Option Word) → At 0 (option_words o) (default_faults d vs o)
unfolding default_faults option_words
default_at d vs none = nowhere
default_at d vs (some t) = at_only _ (default_number (sort_of t.class)) t [] (let h = default_high (sort_of t.class) in omega (arith, h))

name_at : (d : Definition) (others before : List Definition) → At 0 (d.name ∷ []) (name_faults d others before)
unfolding name_faults
name_at d others before = at_if _ 7 (omega arith) (at_if _ 8 (omega arith) (at_only _ 9 d.name [] (omega arith)))

word_at : (b : Bool) (e : ℕ) (w : Word) (before : List Word) → At 0 (w ∷ []) (word_faults b e w before)
unfolding word_faults
word_at b e w before = at_if _ 7 (omega arith) (at_only _ 8 w [] (omega arith))

mutual
  unfolding scope_faults definition_words

  pub scope_at : (ds : Definitions) (others before : List Definition) → At 0 (definition_words ds) (scope_faults ds others before)
  scope_at no_more others before = nowhere
  scope_at (define d vs ds) others before =
      at_append
      (on (at_append (range_at d.type d.bounds) (at_append (value_at vs (is_enum d.type) [] []) (at_append (name_at d others before) (default_at d vs d.default)))))
      (scope_at ds others (before ++ (d ∷ [])))

  pub value_at : (vs : Values) (b : Bool) (before : List Word) (others : List Definition) → At 0 (value_words vs) (value_faults vs b before others)
  value_at no_value b before others = nowhere
  value_at (value w e us vs) b before others =
      at_append (at_append (word_at b e w before) (scope_at us others [])) (value_at vs b (before ++ (w ∷ [])) (others ++ heads us))

spec_at : (before xs : List Spec) → At 0 (spec_words xs) (spec_faults before xs)
unfolding spec_faults spec_words
spec_at before [] = nowhere
spec_at before (x ∷ xs) = at_append (at_if _ 8 (omega arith) (on (scope_at x.definitions [] []))) (spec_at (before ++ (x ∷ [])) xs)

pub definition_at : (f : File) → At 0 (f.version ∷ spec_words f.specs) (definition_faults f)
unfolding definition_faults
definition_at f = at_if _ 6 (omega arith) (on (spec_at [] f.specs))

-- Inside one block -----------------------------------------------------------------------------------------------------------------------

reference_at : (os : List Object) (k : Kind) (o : Sort) (t : Word) → At 0 (t ∷ []) (reference_faults os k o t)
unfolding reference_faults
reference_at os k a_number t = at_only true 15 t [] (omega arith)
reference_at os k a_string t = at_only true 15 t [] (omega arith)
reference_at os k a_float t = at_only true 15 t [] (omega arith)
reference_at os k a_truth t = at_only true 15 t [] (omega arith)
reference_at os k an_auto t = at_only true 15 t [] (omega arith)
reference_at os k a_no_default t = at_only true 15 t [] (omega arith)
reference_at os k a_name t = at_only _ 18 t [] (omega arith)

brace_at : (o : Option Word) → At 0 (option_words o) (brace_faults o)
unfolding brace_faults option_words
brace_at none = nowhere
brace_at (some t) = at_only true 15 t [] (omega arith)

as_at : (y : AttributeType) (os : List Object) (x : Statement) (d : Defined) → At 0 (x.value ∷ option_words x.brace) (faults_as y os x d)
unfolding faults_as
as_at (integer i) os x d = at_only _ 15 x.value (option_words x.brace) (omega arith)
as_at string os x d = at_only _ 15 x.value (option_words x.brace) (omega arith)
as_at float os x d = at_only _ 15 x.value (option_words x.brace) (omega arith)
as_at boolean os x d = at_only _ 15 x.value (option_words x.brace) (omega arith)
as_at enum os x d = at_only _ 15 x.value (option_words x.brace) (omega arith)
as_at (reference k) os x d = at_append (reference_at os k (sort_of x.value.class) x.value) (brace_at x.brace)

inside_at : (own : List Fault) (x : Statement) (us : Definitions) (ns : List Word) (k : Definitions → List Fault) (l : List Word)
    → At 0 (x.name ∷ x.value ∷ option_words x.brace) own → ((ds : Definitions) → At 0 l (k ds))
    → At 0 (x.name ∷ x.value ∷ (option_words x.brace ++ l)) (and_inside own x us ns k)
unfolding and_inside
inside_at [] x us ns k l p q = on (at_if _ 16 (omega arith) (on (at_append (at_none (option_words x.brace)) (q us))))
inside_at (f ∷ fs) x us ns k l p q = at_more p l

judged_at : (o : Option Defined) (os : List Object) (x : Statement) (before ns : List Word) (k : Definitions → List Fault) (l : List Word)
    → ((ds : Definitions) → At 0 l (k ds)) → At 0 (x.name ∷ x.value ∷ (option_words x.brace ++ l)) (judged o os x before ns k)
unfolding judged own_faults
judged_at none os x before ns k l q = at_only true 13 x.name (x.value ∷ (option_words x.brace ++ l)) (omega arith)
judged_at (some d) os x before ns k l q =
    inside_at (own_faults os x d before) x (under d.values x.value) ns k l
    (at_if _ 14 (omega arith) (on (as_at d.definition.type os x d))) q

pub judge_at : (ss : Statements) (os : List Object) (ds : Definitions) (before : List Word) → At 0 (statement_words ss) (judge ss os ds before)
unfolding judge statement_words
judge_at done os ds before = nowhere
judge_at (state x inside rest) os ds before =
    at_append
    (judged_at (find_definition ds x.name) os x before (names inside) (λ us. judge inside os us []) (statement_words inside) (λ us. judge_at inside os us []))
    (judge_at rest os ds (before ++ (x.name ∷ [])))
