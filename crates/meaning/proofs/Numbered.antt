-- Every fault of a stage behind the grammar's has a number above 5: a stage without a fault is told from one with a fault by the number, and
-- the grammar stage's refusals from later ones. Assumes nothing.
use mathlib.Core.List.{List, [], ◌∷◌, ◌++◌}
use mathlib.Core.Bool.{Bool, true, false}
use mathlib.Core.Option.{Option, none, some}
use Prim.Native.Nat.{ℕ, ◌<◌}
use native.Mathlib.Omega.{arith}
use Rattle.token.proofs.Find.{by_test}
use Rattle.grammar.specs.Grammar.{Kind, Integer}
use Rattle.meaning.specs.Syntax.{Word, Bounds, no_bounds, from_to, one_of, AttributeType, integer, string, boolean, enum, float, reference, Definition, Definitions, no_more, define, Values, no_value, value, Defined, Spec, Statement, Statements, done, state, Object, File, is_enum}
use Rattle.meaning.specs.Kinds.{kinds}
use Rattle.meaning.specs.Faults.{Fault, faults_if, ahead, sooner, first}
use Rattle.meaning.specs.Scopes.{Sort, a_number, a_string, a_truth, an_auto, a_no_default, a_name, a_float, sort_of, heads, of_kind, find_definition, names}
use Rattle.meaning.specs.Defining.{outside, bound_faults, low_faults, range_faults, default_number, default_faults, name_faults, word_faults, scope_faults, value_faults, spec_faults, definition_faults}
use Rattle.meaning.specs.Applying.{too_few, statement_faults, each_object, each_part, elsewhere, each_name, object_faults}
use Rattle.meaning.specs.Judging.{reference_faults, brace_faults, faults_as, own_faults, and_inside, judged, judge, judge_object, judge_objects, statement_stage}

-- Each of the faults has a number above 5.
pub data Numbered : List Fault → Type 0 where
  no_fault : Numbered []
  a_fault : {f : Fault} {fs : List Fault} → 5 < f.number → Numbered fs → Numbered (f ∷ fs)

pub with_more : {a b : List Fault} → Numbered a → Numbered b → Numbered (a ++ b)
with_more no_fault q = q
with_more (a_fault h p) q = a_fault h (with_more p q)

pub at_if : (b : Bool) (t : Word) (n : ℕ) → 5 < n → Numbered (faults_if b t n)
unfolding faults_if
at_if true t n h = a_fault h no_fault
at_if false t n h = no_fault

-- 6 to 9 and 21 to 23 ------------------------------------------------------------------------------------------------------------------------------------

of_outside : (i : Integer) (ts : List Word) → Numbered (outside i ts)
unfolding outside
of_outside i [] = no_fault
of_outside i (t ∷ ts) = with_more (at_if _ t 21 (omega arith)) (of_outside i ts)

of_bounds : (i : Integer) (b : Bounds) → Numbered (bound_faults i b)
unfolding bound_faults
of_bounds i no_bounds = no_fault
of_bounds i (from_to a b) = with_more (at_if _ a 21 (omega arith)) (of_outside i (a ∷ b ∷ []))
of_bounds i (one_of ts) = of_outside i ts

of_low : (b : Bounds) → Numbered (low_faults b)
unfolding low_faults
of_low no_bounds = no_fault
of_low (from_to a b) = at_if _ a 21 (omega arith)
of_low (one_of ts) = no_fault

pub of_range : (y : AttributeType) (b : Bounds) → Numbered (range_faults y b)
unfolding range_faults
of_range (integer i) b = of_bounds i b
of_range string b = no_fault
of_range boolean b = no_fault
of_range enum b = no_fault
of_range float b = of_low b
of_range (reference k) b = no_fault

-- The number of a fault of a default is 22 or 23.
pub default_high : (o : Sort) → 21 < default_number o
unfolding default_number
default_high a_number = omega arith
default_high a_string = omega arith
default_high a_truth = omega arith
default_high an_auto = omega arith
default_high a_no_default = omega arith
default_high a_name = omega arith
default_high a_float = omega arith

pub of_default : (d : Definition) (vs : Values) (o : Option Word) → Numbered (default_faults d vs o)
unfolding default_faults
of_default d vs none = no_fault
of_default d vs (some t) = at_if _ t (default_number (sort_of t.class)) (let h = default_high (sort_of t.class) in omega (arith, h))

pub of_name : (d : Definition) (others before : List Definition) → Numbered (name_faults d others before)
unfolding name_faults
of_name d others before =
    with_more (at_if _ d.name 7 (omega arith)) (with_more (at_if _ d.name 8 (omega arith)) (at_if _ d.name 9 (omega arith)))

pub of_word : (b : Bool) (e : ℕ) (w : Word) (before : List Word) → Numbered (word_faults b e w before)
unfolding word_faults
of_word b e w before = with_more (at_if _ w 7 (omega arith)) (at_if _ w 8 (omega arith))

mutual
  unfolding scope_faults

  of_scope : (ds : Definitions) (others before : List Definition) → Numbered (scope_faults ds others before)
  of_scope no_more others before = no_fault
  of_scope (define d vs ds) others before =
      with_more
      (with_more (of_range d.type d.bounds)
      (with_more (of_values vs (is_enum d.type) [] []) (with_more (of_name d others before) (of_default d vs d.default))))
      (of_scope ds others (before ++ (d ∷ [])))

  of_values : (vs : Values) (b : Bool) (before : List Word) (others : List Definition) → Numbered (value_faults vs b before others)
  of_values no_value b before others = no_fault
  of_values (value w e us vs) b before others =
      with_more (with_more (of_word b e w before) (of_scope us others [])) (of_values vs b (before ++ (w ∷ [])) (others ++ heads us))

of_specs : (before xs : List Spec) → Numbered (spec_faults before xs)
unfolding spec_faults
of_specs before [] = no_fault
of_specs before (x ∷ xs) = with_more (with_more (at_if _ x.word 8 (omega arith)) (of_scope x.definitions [] [])) (of_specs (before ++ (x ∷ [])) xs)

pub of_definitions : (f : File) → Numbered (definition_faults f)
unfolding definition_faults
of_definitions f = with_more (at_if _ f.version 6 (omega arith)) (of_specs [] f.specs)

-- 11, 17 and 24 ------------------------------------------------------------------------------------------------------------------------------

pub of_few : (ks : List Kind) (os : List Object) (cpu : Word) → Numbered (too_few ks os cpu)
unfolding too_few
of_few [] os cpu = no_fault
of_few (k ∷ ks) os cpu = with_more (at_if _ cpu 17 (omega arith)) (of_few ks os cpu)

of_statements : (ss : Statements) → Numbered (statement_faults ss)
unfolding statement_faults
of_statements done = no_fault
of_statements (state x inside rest) = with_more (with_more (at_if _ x.name 11 (omega arith)) (of_statements inside)) (of_statements rest)

of_each : (before xs : List Object) → Numbered (each_object before xs)
unfolding each_object
of_each before [] = no_fault
of_each before (x ∷ xs) =
    with_more (with_more (at_if _ x.word 11 (omega arith)) (at_if _ x.word 17 (omega arith))) (of_each (before ++ (x ∷ [])) xs)

of_parts : (xs : List Object) → Numbered (each_part xs)
unfolding each_part
of_parts [] = no_fault
of_parts (x ∷ xs) = with_more (with_more (at_if _ x.word 11 (omega arith)) (of_statements x.statements)) (of_parts xs)

of_names : (before xs : List Object) → Numbered (each_name before xs)
unfolding each_name
of_names before [] = no_fault
of_names before (x ∷ xs) = with_more (at_if _ x.name 24 (omega arith)) (of_names (before ++ (x ∷ [])) xs)

pub of_objects : (f : File) → Numbered (object_faults f)
unfolding object_faults
of_objects f = with_more (of_few kinds f.objects f.cpu) (with_more (of_each [] f.objects) (with_more (of_parts f.parts) (of_names [] f.parts)))

-- 13 to 16 and 18 ----------------------------------------------------------------------------------------------------------------------------

pub of_reference : (os : List Object) (k : Kind) (y : Sort) (t : Word) → Numbered (reference_faults os k y t)
unfolding reference_faults
of_reference os k a_number t = at_if true t 15 (omega arith)
of_reference os k a_string t = at_if true t 15 (omega arith)
of_reference os k a_float t = at_if true t 15 (omega arith)
of_reference os k a_truth t = at_if true t 15 (omega arith)
of_reference os k an_auto t = at_if true t 15 (omega arith)
of_reference os k a_no_default t = at_if true t 15 (omega arith)
of_reference os k a_name t = at_if _ t 18 (omega arith)

pub of_brace : (o : Option Word) → Numbered (brace_faults o)
unfolding brace_faults
of_brace none = no_fault
of_brace (some t) = at_if true t 15 (omega arith)

pub of_type : (y : AttributeType) (os : List Object) (x : Statement) (d : Defined) → Numbered (faults_as y os x d)
unfolding faults_as
of_type (integer i) os x d = at_if _ x.value 15 (omega arith)
of_type string os x d = at_if _ x.value 15 (omega arith)
of_type float os x d = at_if _ x.value 15 (omega arith)
of_type boolean os x d = at_if _ x.value 15 (omega arith)
of_type enum os x d = at_if _ x.value 15 (omega arith)
of_type (reference k) os x d = with_more (of_reference os k (sort_of x.value.class) x.value) (of_brace x.brace)

pub of_own : (os : List Object) (x : Statement) (d : Defined) (before : List Word) → Numbered (own_faults os x d before)
unfolding own_faults
of_own os x d before = with_more (at_if _ x.name 14 (omega arith)) (of_type d.definition.type os x d)

of_inside : (fs : List Fault) (x : Statement) (us : Definitions) (ns : List Word) (k : Definitions → List Fault) → Numbered fs → ((us : Definitions) → Numbered (k us))
    → Numbered (and_inside fs x us ns k)
unfolding and_inside
of_inside [] x us ns k p q = with_more (at_if _ x.value 16 (omega arith)) (q us)
of_inside (f ∷ fs) x us ns k p q = p

pub of_judged : (o : Option Defined) (os : List Object) (x : Statement) (before ns : List Word) (k : Definitions → List Fault) → ((us : Definitions) → Numbered (k us))
    → Numbered (judged o os x before ns k)
unfolding judged
of_judged none os x before ns k q = at_if true x.name 13 (omega arith)
of_judged (some d) os x before ns k q = of_inside (own_faults os x d before) x _ ns k (of_own os x d before) q

pub of_judge : (ss : Statements) (os : List Object) (ds : Definitions) (before : List Word) → Numbered (judge ss os ds before)
unfolding judge
of_judge done os ds before = no_fault
of_judge (state x inside rest) os ds before =
    with_more (of_judged (find_definition ds x.name) os x before (names inside) (λ us. judge inside os us []) (λ us. of_judge inside os us []))
    (of_judge rest os ds (before ++ (x.name ∷ [])))

pub of_object : (f : File) (x : Object) (ds : Definitions) → Numbered (judge_object f x ds)
unfolding judge_object
of_object f x ds = with_more (at_if _ x.name 16 (omega arith)) (of_judge x.statements f.objects ds [])

pub of_objects_judged : (f : File) (xs : List Object) → Numbered (judge_objects f xs)
unfolding judge_objects
of_objects_judged f [] = no_fault
of_objects_judged f (x ∷ xs) = with_more (of_object f x (of_kind x.kind f.specs)) (of_objects_judged f xs)

pub of_stage : (f : File) → Numbered (statement_stage f)
unfolding statement_stage
of_stage f = of_objects_judged f f.objects

-- The first ------------------------------------------------------------------------------------------------------------------------------------

abbrev pub NumberedOne : Option Fault → Type 0
NumberedOne none = Unit {0}
NumberedOne (some f) = 5 < f.number

of_sooner : (a : Fault) (o : Option Fault) → 5 < a.number → NumberedOne o → NumberedOne (sooner (some a) o)
unfolding sooner
of_sooner a none p q = p
of_sooner a (some b) p q = by_test (λ (x : Fault). 5 < x.number) (ahead a b) a b (λ _. p) (λ _. q)

pub of_first : (fs : List Fault) → Numbered fs → NumberedOne (first fs)
unfolding first
of_first [] no_fault = tt
of_first (f ∷ fs) (a_fault h p) = of_sooner f (first fs) h (of_first fs p)
