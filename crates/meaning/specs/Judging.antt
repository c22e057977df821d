-- The statements: the stage of 13 to 16 and 18, its faults in the order of their places (document 01, "Meaning" and "Refusals and their order").
-- Assumes nothing.
use Rattle.std.specs.Prelude.{List, [], ◌∷◌, ◌++◌, Bool, true, false, not}
use Rattle.std.proofs.Math.Option.{Option, none, some}
use Rattle.grammar.specs.Grammar.{Kind}
use Rattle.token.specs.Find.{both, either, is_there}
use Rattle.meaning.specs.Syntax.{Word, AttributeType, integer, string, boolean, enum, float, reference, Definitions, no_more, define, Values, no_value, value, Defined, Statement, Statements, done, state, Object, File}
use Rattle.meaning.specs.Words.{alike, among, choose}
use Rattle.meaning.specs.Faults.{Fault, faults_if}
use Rattle.meaning.specs.Scopes.{Sort, a_number, a_string, a_truth, an_auto, a_no_default, a_name, a_float, sort_of, under, find_definition, of_kind, find_object, names, fits}

-- What must be stated ----------------------------------------------------------------------------------------------------------------------

-- "A single attribute not stated takes its default; NO_DEFAULT and no default mean that it must be stated."
unfoldable pub is_no_default : Sort → Bool
is_no_default a_number = false
is_no_default a_string = false
is_no_default a_truth = false
is_no_default an_auto = false
is_no_default a_no_default = true
is_no_default a_name = false
is_no_default a_float = false

unfoldable pub taken_by : Bool → Word → Option Word
taken_by true t = none
taken_by false t = some t

-- What an attribute that is not stated takes: its default, which "NO_DEFAULT and no default" are not.
unfoldable pub taken : Option Word → Option Word
taken none = none
taken (some t) = taken_by (is_no_default (sort_of t.class)) t

-- An attribute that is not stated lacks something: it is single and takes no default, or what is under the default does.
unfoldable pub lacking : Option Word → Bool → (Word → Bool) → Bool
lacking none list? f = not list?
lacking (some t) list? f = f t

-- 16, "attribute that must be stated is not": in a scope with these definitions, where the names ns are stated, or under a value taken there by
-- default ("A value taken by default opens its scope too").
unfoldable mutual
  pub lacks : Definitions → List Word → Bool
  lacks no_more ns = false
  lacks (define d vs ds) ns =
      either (both (not (among d.name ns)) (lacking (taken d.default) d.list (λ t. lacks_under vs t))) (lacks ds ns)

  pub lacks_under : Values → Word → Bool
  lacks_under no_value t = false
  lacks_under (value w e us vs) t = choose (alike w t) (λ _. lacks us []) (λ _. lacks_under vs t)

-- Values -----------------------------------------------------------------------------------------------------------------------------------

-- A reference to the kind k: 15 at a value that is no name, 18 ("reference to no object of its kind") at "the value".
unfoldable pub reference_faults : List Object → Kind → Sort → Word → List Fault
reference_faults os k a_number t = faults_if true t 15
reference_faults os k a_string t = faults_if true t 15
reference_faults os k a_truth t = faults_if true t 15
reference_faults os k an_auto t = faults_if true t 15
reference_faults os k a_no_default t = faults_if true t 15
reference_faults os k a_float t = faults_if true t 15
reference_faults os k a_name t = faults_if (not (is_there (find_object k os t))) t 18

-- 15, "braces after a reference", at "the `{`".
unfoldable pub brace_faults : Option Word → List Fault
brace_faults none = []
brace_faults (some t) = faults_if true t 15

-- 15, "wrong sort of value, out of range, unknown enumerator, AUTO not allowed", at "the value".
unfoldable pub faults_as : AttributeType → List Object → Statement → Defined → List Fault
faults_as (integer i) os x d = faults_if (not (fits d.definition d.values x.value)) x.value 15
faults_as string os x d = faults_if (not (fits d.definition d.values x.value)) x.value 15
faults_as boolean os x d = faults_if (not (fits d.definition d.values x.value)) x.value 15
faults_as enum os x d = faults_if (not (fits d.definition d.values x.value)) x.value 15
faults_as float os x d = faults_if (not (fits d.definition d.values x.value)) x.value 15
faults_as (reference k) os x d = reference_faults os k (sort_of x.value.class) x.value ++ brace_faults x.brace

-- Statements -------------------------------------------------------------------------------------------------------------------------------

-- A statement's own faults, for the attribute d: 14 ("single attribute stated again in its block") at the "later name", then those of its
-- value. The names stated before it in its block are before.
unfoldable pub own_faults : List Object → Statement → Defined → (before : List Word) → List Fault
own_faults os x d before =
    faults_if (both (not d.definition.list) (among x.name before)) x.name 14 ++ faults_as d.definition.type os x d

-- "A statement at fault by 13, 14, 15 or 18 adds no fault from its braces": else 16 at the value word, where something under it must be stated
-- and is not, and the faults k of its braces.
unfoldable pub and_inside : List Fault → Statement → Definitions → List Word → (Definitions → List Fault) → List Fault
and_inside [] x us ns k = faults_if (lacks us ns) x.value 16 ++ k us
and_inside (f ∷ fs) x us ns k = f ∷ fs

-- 13, "name not defined in its scope", at "the name".
unfoldable pub judged : Option Defined → List Object → Statement → (before inside : List Word) → (Definitions → List Fault) → List Fault
judged none os x before ns k = faults_if true x.name 13
judged (some d) os x before ns k = and_inside (own_faults os x d before) x (under d.values x.value) ns k

-- The statements of a block whose scope has the definitions ds: "statements in braces after a value belong to the definitions under that value".
unfoldable pub judge : Statements → List Object → Definitions → (before : List Word) → List Fault
judge done os ds before = []
judge (state x inside rest) os ds before =
    judged (find_definition ds x.name) os x before (names inside) (λ us. judge inside os us [])
    ++ judge rest os ds (before ++ (x.name ∷ []))

-- 16 at the object's name ("the owner: object name or value word, the nearest one stated"), and the faults of its statements.
unfoldable pub judge_object : File → Object → Definitions → List Fault
judge_object f x ds = faults_if (lacks ds (names x.statements)) x.name 16 ++ judge x.statements f.objects ds []

-- Each object in the scope of its kind: "an object's statements belong to the definitions of its kind".
unfoldable pub judge_objects : File → List Object → List Fault
judge_objects f [] = []
judge_objects f (x ∷ xs) = judge_object f x (of_kind x.kind f.specs) ++ judge_objects f xs

-- The stage of 13 to 16 and 18.
unfoldable pub statement_stage : File → List Fault
statement_stage f = judge_objects f f.objects
