-- The rules do not look at places: the faults of the syntax without its places are its faults, at the place 0; so it is accepted exactly where
-- the syntax is, with the same tables but places. Assumes nothing.
use mathlib.Core.Path.{◌≡◌, refl, sym, ◌∙◌, ap, ap₂, subst}
use mathlib.Core.List.{List, [], ◌∷◌, ◌++◌}
use mathlib.Core.Bool.{Bool, true, false, not}
use mathlib.Core.Option.{Option, none, some}
use Prim.Native.Nat.{ℕ}
use lib.Dec.{eqb, ltb}
use Rattle.grammar.specs.Grammar.{Kind, Integer}
use Rattle.token.specs.Find.{pick, both, either, is_there}
use Rattle.token.specs.Words.{bytes_of, same}
use Rattle.meaning.specs.Syntax.{Num, Word, AttributeType, integer, string, boolean, enum, float, reference, Bounds, no_bounds, from_to, one_of, Definition, Definitions, no_more, define, Values, no_value, value, Defined, Spec, Statement, Statements, done, state, Object, File, is_enum}
use Rattle.meaning.specs.Words.{choose, alike, among, num_at_most, in_float_bounds, in_type}
use Rattle.meaning.specs.Kinds.{same_kind, kinds, fewest, most}
use Rattle.meaning.specs.Faults.{Fault, faults_if, sooner, first}
use Rattle.meaning.specs.Scopes.{Sort, a_number, a_string, a_truth, an_auto, a_no_default, a_name, a_float, sort_of, of_kind, Under, find_value, definitions_or, under, find_definition, heads, names, find_object, fits_number, fits_float, fits_as, fits}
use Rattle.meaning.specs.Defining.{outside, bound_faults, low_faults, range_faults, default_wrong, default_number, default_faults, defined_in, differs, name_faults, word_faults, scope_faults, value_faults, specified, spec_faults, definition_faults}
use Rattle.meaning.specs.Applying.{how_many, too_few, full, statement_faults, each_object, each_part, elsewhere, each_name, object_faults}
use Rattle.meaning.specs.Judging.{lacks, reference_faults, brace_faults, faults_as, own_faults, and_inside, judged, judge, judge_object, judge_objects, statement_stage}
use Rattle.meaning.specs.Resolving.{all_values, how_many_in_all, too_many}
use Rattle.meaning.specs.Answers.{Tables, Answer, accepted, refused, tables, unless, answer}
use Rattle.meaning.specs.Places.{each, unplaced_tables}
use Rattle.meaning.proofs.Unplaced.{if_there, unplaced_word, unplaced_bounds, unplaced_definition, unplaced_definitions, unplaced_values, unplaced_defined, unplaced_spec, unplaced_statement, unplaced_statements, unplaced_object, unplaced, unplaced_fault, unplaced_resolved, each_append, among_unplaced, bounds_unplaced, unplaced_under, value_unplaced, definition_unplaced, kind_unplaced, object_unplaced, names_unplaced, there_unplaced, lacks_unplaced, all_values_unplaced, how_many_objects_unplaced, how_many_all_unplaced, tables_unplaced}

-- Faults at the place 0.
abbrev at_zero : List Fault → List Fault
at_zero l = each unplaced_fault l

if_unplaced : (b : Bool) (t : Word) (n : ℕ) → faults_if b (unplaced_word t) n ≡ at_zero (faults_if b t n)
unfolding faults_if each unplaced_fault unplaced_word
if_unplaced true t n = refl
if_unplaced false t n = refl

-- A fault by a test that does not look at places.
if_same : {b c : Bool} (t : Word) (n : ℕ) → b ≡ c → faults_if b (unplaced_word t) n ≡ at_zero (faults_if c t n)
if_same {b} {c} t n e = ap (λ x. faults_if x (unplaced_word t) n) e ∙ if_unplaced c t n

append_unplaced : {a b : List Fault} (c d : List Fault) → a ≡ at_zero c → b ≡ at_zero d → a ++ b ≡ at_zero (c ++ d)
append_unplaced c d p q = ap₂ ◌++◌ p q ∙ sym (each_append unplaced_fault c d)

-- Values -----------------------------------------------------------------------------------------------------------------------------------

number_fits : (y : AttributeType) (b : Bounds) (n : Num) → fits_number y (unplaced_bounds b) n ≡ fits_number y b n
unfolding fits_number
number_fits (integer i) b n = ap (both (in_type i n)) (bounds_unplaced n b)
number_fits string b n = refl
number_fits boolean b n = refl
number_fits enum b n = refl
number_fits float b n = refl
number_fits (reference k) b n = refl

float_fits : (y : AttributeType) (b : Bounds) (n : Num) → fits_float y (unplaced_bounds b) n ≡ fits_float y b n
unfolding fits_float in_float_bounds unplaced_bounds unplaced_word
float_fits (integer i) b n = refl
float_fits string b n = refl
float_fits boolean b n = refl
float_fits enum b n = refl
float_fits float no_bounds n = refl
float_fits float (from_to a c) n = refl
float_fits float (one_of ts) n = refl
float_fits (reference k) b n = refl

as_fits : (o : Sort) (d : Definition) (vs : Values) (t : Word) → fits_as o (unplaced_definition d) (unplaced_values vs) (unplaced_word t) ≡ fits_as o d vs t
unfolding fits_as unplaced_definition unplaced_word
as_fits a_number d vs t = number_fits d.type d.bounds t.number
as_fits a_float d vs t = float_fits d.type d.bounds t.float
as_fits a_string d vs t = refl
as_fits a_truth d vs t = refl
as_fits an_auto d vs t = refl
as_fits a_no_default d vs t = refl
as_fits a_name d vs t = ap (both (is_enum d.type)) (ap is_there (value_unplaced vs t) ∙ there_unplaced unplaced_under (find_value vs t))

fits_unplaced : (d : Definition) (vs : Values) (t : Word) → fits (unplaced_definition d) (unplaced_values vs) (unplaced_word t) ≡ fits d vs t
unfolding fits unplaced_word
fits_unplaced d vs t = as_fits (sort_of t.class) d vs t

-- 6 to 9 and 21 to 23 ----------------------------------------------------------------------------------------------------------------------------------

outside_unplaced : (i : Integer) (ts : List Word) → outside i (each unplaced_word ts) ≡ at_zero (outside i ts)
unfolding outside each unplaced_word
outside_unplaced i [] = refl
outside_unplaced i (t ∷ ts) = append_unplaced (faults_if (not (in_type i t.number)) t 21) (outside i ts) (if_unplaced (not (in_type i t.number)) t 21) (outside_unplaced i ts)

bound_unplaced : (i : Integer) (b : Bounds) → bound_faults i (unplaced_bounds b) ≡ at_zero (bound_faults i b)
unfolding bound_faults unplaced_bounds each unplaced_word
bound_unplaced i no_bounds = refl
bound_unplaced i (from_to a b) =
    append_unplaced (faults_if (not (num_at_most a.number b.number)) a 21) (outside i (a ∷ b ∷ [])) (if_unplaced (not (num_at_most a.number b.number)) a 21) (outside_unplaced i (a ∷ b ∷ []))
bound_unplaced i (one_of ts) = outside_unplaced i ts

low_unplaced : (b : Bounds) → low_faults (unplaced_bounds b) ≡ at_zero (low_faults b)
unfolding low_faults unplaced_bounds each unplaced_word
low_unplaced no_bounds = refl
low_unplaced (from_to a b) = if_unplaced (not (num_at_most a.float b.float)) a 21
low_unplaced (one_of ts) = refl

range_unplaced : (y : AttributeType) (b : Bounds) → range_faults y (unplaced_bounds b) ≡ at_zero (range_faults y b)
unfolding range_faults each
range_unplaced (integer i) b = bound_unplaced i b
range_unplaced string b = refl
range_unplaced boolean b = refl
range_unplaced enum b = refl
range_unplaced float b = low_unplaced b
range_unplaced (reference k) b = refl

default_unplaced : (d : Definition) (vs : Values) (o : Option Word)
    → default_faults (unplaced_definition d) (unplaced_values vs) (if_there unplaced_word o) ≡ at_zero (default_faults d vs o)
unfolding default_faults if_there each unplaced_word
default_unplaced d vs none = refl
default_unplaced d vs (some t) = if_same t (default_number (sort_of t.class)) (ap (default_wrong (sort_of t.class)) (fits_unplaced d vs t))

defined_unplaced : (t : Word) (ds : List Definition) → defined_in (unplaced_word t) (each unplaced_definition ds) ≡ defined_in t ds
unfolding defined_in each alike unplaced_definition unplaced_word
defined_unplaced t [] = refl
defined_unplaced t (d ∷ ds) = ap (either (same d.name.bytes t.bytes)) (defined_unplaced t ds)

differs_unplaced : (d : Definition) (ds : List Definition) → differs (unplaced_definition d) (each unplaced_definition ds) ≡ differs d ds
unfolding differs each alike unplaced_definition unplaced_word
differs_unplaced d [] = refl
differs_unplaced d (x ∷ xs) = ap (pick (same x.name.bytes d.name.bytes) (not (same x.word.bytes d.word.bytes))) (differs_unplaced d xs)

name_unplaced : (d : Definition) (others before : List Definition)
    → name_faults (unplaced_definition d) (each unplaced_definition others) (each unplaced_definition before) ≡ at_zero (name_faults d others before)
unfolding name_faults unplaced_definition
name_unplaced d others before =
    append_unplaced (faults_if (eqb d.row 512) d.name 7) (faults_if (defined_in d.name before) d.name 8 ++ faults_if (differs d others) d.name 9)
    (if_unplaced (eqb d.row 512) d.name 7)
    (append_unplaced (faults_if (defined_in d.name before) d.name 8) (faults_if (differs d others) d.name 9)
    (if_same d.name 8 (defined_unplaced d.name before))
    (if_same d.name 9 (differs_unplaced d others)))

word_unplaced : (b : Bool) (e : ℕ) (w : Word) (before : List Word) → word_faults b e (unplaced_word w) (each unplaced_word before) ≡ at_zero (word_faults b e w before)
unfolding word_faults
word_unplaced b e w before =
    append_unplaced (faults_if (both b (eqb e 1024)) w 7) (faults_if (among w before) w 8) (if_unplaced (both b (eqb e 1024)) w 7) (if_same w 8 (among_unplaced w before))

heads_unplaced : (ds : Definitions) → heads (unplaced_definitions ds) ≡ each unplaced_definition (heads ds)
unfolding heads unplaced_definitions each
heads_unplaced no_more = refl
heads_unplaced (define d vs ds) = ap (unplaced_definition d ∷◌) (heads_unplaced ds)

-- One more behind those before.
behind : {A B : Type 0} (f : A → B) (l : List A) (a : A) → each f l ++ (f a ∷ []) ≡ each f (l ++ (a ∷ []))
unfolding each
behind f l a = sym (each_append f l (a ∷ []))

mutual
  unfolding scope_faults unplaced_definitions unplaced_definition each

  scope_unplaced : (ds : Definitions) (others before : List Definition)
      → scope_faults (unplaced_definitions ds) (each unplaced_definition others) (each unplaced_definition before) ≡ at_zero (scope_faults ds others before)
  scope_unplaced no_more others before = refl
  scope_unplaced (define d vs ds) others before =
      append_unplaced
      (range_faults d.type d.bounds ++ (value_faults vs (is_enum d.type) [] [] ++ (name_faults d others before ++ default_faults d vs d.default)))
      (scope_faults ds others (before ++ (d ∷ [])))
      (append_unplaced (range_faults d.type d.bounds) (value_faults vs (is_enum d.type) [] [] ++ (name_faults d others before ++ default_faults d vs d.default))
      (range_unplaced d.type d.bounds)
      (append_unplaced (value_faults vs (is_enum d.type) [] []) (name_faults d others before ++ default_faults d vs d.default)
      (values_unplaced vs (is_enum d.type) [] [])
      (append_unplaced (name_faults d others before) (default_faults d vs d.default) (name_unplaced d others before) (default_unplaced d vs d.default))))
      (ap (scope_faults (unplaced_definitions ds) (each unplaced_definition others)) (behind unplaced_definition before d) ∙ scope_unplaced ds others (before ++ (d ∷ [])))

  values_unplaced : (vs : Values) (b : Bool) (before : List Word) (others : List Definition)
      → value_faults (unplaced_values vs) b (each unplaced_word before) (each unplaced_definition others) ≡ at_zero (value_faults vs b before others)
  values_unplaced no_value b before others = refl
  values_unplaced (value w e us vs) b before others =
      append_unplaced (word_faults b e w before ++ scope_faults us others []) (value_faults vs b (before ++ (w ∷ [])) (others ++ heads us))
      (append_unplaced (word_faults b e w before) (scope_faults us others []) (word_unplaced b e w before) (scope_unplaced us others []))
      (ap₂ (value_faults (unplaced_values vs) b) (behind unplaced_word before w)
      (ap (each unplaced_definition others ++◌) (heads_unplaced us) ∙ sym (each_append unplaced_definition others (heads us)))
      ∙ values_unplaced vs b (before ++ (w ∷ [])) (others ++ heads us))

specified_unplaced : (x : Spec) (xs : List Spec) → specified (unplaced_spec x) (each unplaced_spec xs) ≡ specified x xs
unfolding specified each unplaced_spec
specified_unplaced x [] = refl
specified_unplaced x (y ∷ ys) = ap (either (same_kind x.kind y.kind)) (specified_unplaced x ys)

specs_unplaced : (before xs : List Spec) → spec_faults (each unplaced_spec before) (each unplaced_spec xs) ≡ at_zero (spec_faults before xs)
unfolding spec_faults each unplaced_spec
specs_unplaced before [] = refl
specs_unplaced before (x ∷ xs) =
    append_unplaced (faults_if (specified x before) x.word 8 ++ scope_faults x.definitions [] []) (spec_faults (before ++ (x ∷ [])) xs)
    (append_unplaced (faults_if (specified x before) x.word 8) (scope_faults x.definitions [] []) (if_same x.word 8 (specified_unplaced x before)) (scope_unplaced x.definitions [] []))
    (ap (λ b. spec_faults b (each unplaced_spec xs)) (behind unplaced_spec before x) ∙ specs_unplaced (before ++ (x ∷ [])) xs)

pub definition_faults_unplaced : (f : File) → definition_faults (unplaced f) ≡ each unplaced_fault (definition_faults f)
unfolding definition_faults unplaced each unplaced_word
definition_faults_unplaced f =
    append_unplaced (faults_if (not (same f.version.bytes (bytes_of "\"2.5\""))) f.version 6) (spec_faults [] f.specs)
    (if_unplaced (not (same f.version.bytes (bytes_of "\"2.5\""))) f.version 6) (specs_unplaced [] f.specs)

-- 11 and 17 ----------------------------------------------------------------------------------------------------------------------------

few_unplaced : (ks : List Kind) (os : List Object) (cpu : Word) → too_few ks (each unplaced_object os) (unplaced_word cpu) ≡ at_zero (too_few ks os cpu)
unfolding too_few each
few_unplaced [] os cpu = refl
few_unplaced (k ∷ ks) os cpu =
    append_unplaced (faults_if (ltb (how_many k os) (fewest k)) cpu 17) (too_few ks os cpu)
    (if_same cpu 17 (ap (λ n. ltb n (fewest k)) (how_many_objects_unplaced k os))) (few_unplaced ks os cpu)

statements_unplaced : (ss : Statements) → statement_faults (unplaced_statements ss) ≡ at_zero (statement_faults ss)
unfolding statement_faults unplaced_statements unplaced_statement each
statements_unplaced done = refl
statements_unplaced (state x inside rest) =
    append_unplaced (faults_if (eqb x.number 2048) x.name 11 ++ statement_faults inside) (statement_faults rest)
    (append_unplaced (faults_if (eqb x.number 2048) x.name 11) (statement_faults inside) (if_unplaced (eqb x.number 2048) x.name 11) (statements_unplaced inside))
    (statements_unplaced rest)

objects_unplaced : (before xs : List Object) → each_object (each unplaced_object before) (each unplaced_object xs) ≡ at_zero (each_object before xs)
unfolding each_object each unplaced_object
objects_unplaced before [] = refl
objects_unplaced before (x ∷ xs) =
    let a = faults_if (eqb x.row 256) x.word 11 in
    let b = faults_if (full (most x.kind) (how_many x.kind before)) x.word 17 in
    append_unplaced (a ++ b) (each_object (before ++ (x ∷ [])) xs)
    (append_unplaced a b (if_unplaced (eqb x.row 256) x.word 11)
    (if_same x.word 17 (ap (full (most x.kind)) (how_many_objects_unplaced x.kind before))))
    (ap (λ l. each_object l (each unplaced_object xs)) (behind unplaced_object before x) ∙ objects_unplaced (before ++ (x ∷ [])) xs)

parts_unplaced : (xs : List Object) → each_part (each unplaced_object xs) ≡ at_zero (each_part xs)
unfolding each_part each unplaced_object
parts_unplaced [] = refl
parts_unplaced (x ∷ xs) =
    let a = faults_if (eqb x.row 512) x.word 11 in
    append_unplaced (a ++ statement_faults x.statements) (each_part xs)
    (append_unplaced a (statement_faults x.statements) (if_unplaced (eqb x.row 512) x.word 11) (statements_unplaced x.statements))
    (parts_unplaced xs)

elsewhere_unplaced : (x : Object) (l : List Object) → elsewhere (unplaced_object x) (each unplaced_object l) ≡ elsewhere x l
unfolding elsewhere each alike unplaced_object unplaced_word
elsewhere_unplaced x [] = refl
elsewhere_unplaced x (y ∷ l) = ap (either (both (not (same_kind x.kind y.kind)) (same y.name.bytes x.name.bytes))) (elsewhere_unplaced x l)

each_name_unplaced : (before xs : List Object) → each_name (each unplaced_object before) (each unplaced_object xs) ≡ at_zero (each_name before xs)
unfolding each_name each unplaced_object
each_name_unplaced before [] = refl
each_name_unplaced before (x ∷ xs) =
    append_unplaced (faults_if (elsewhere x before) x.name 24) (each_name (before ++ (x ∷ [])) xs) (if_same x.name 24 (elsewhere_unplaced x before))
    (ap (λ l. each_name l (each unplaced_object xs)) (behind unplaced_object before x) ∙ each_name_unplaced (before ++ (x ∷ [])) xs)

pub object_faults_unplaced : (f : File) → object_faults (unplaced f) ≡ each unplaced_fault (object_faults f)
unfolding object_faults unplaced each
object_faults_unplaced f =
    append_unplaced (too_few kinds f.objects f.cpu) (each_object [] f.objects ++ (each_part f.parts ++ each_name [] f.parts)) (few_unplaced kinds f.objects f.cpu)
    (append_unplaced (each_object [] f.objects) (each_part f.parts ++ each_name [] f.parts) (objects_unplaced [] f.objects)
    (append_unplaced (each_part f.parts) (each_name [] f.parts) (parts_unplaced f.parts) (each_name_unplaced [] f.parts)))

-- 13 to 16 and 18 --------------------------------------------------------------------------------------------------------------------------

reference_unplaced : (os : List Object) (k : Kind) (o : Sort) (t : Word) → reference_faults (each unplaced_object os) k o (unplaced_word t) ≡ at_zero (reference_faults os k o t)
unfolding reference_faults
reference_unplaced os k a_number t = if_unplaced true t 15
reference_unplaced os k a_string t = if_unplaced true t 15
reference_unplaced os k a_float t = if_unplaced true t 15
reference_unplaced os k a_truth t = if_unplaced true t 15
reference_unplaced os k an_auto t = if_unplaced true t 15
reference_unplaced os k a_no_default t = if_unplaced true t 15
reference_unplaced os k a_name t = if_same t 18 (ap not (ap is_there (object_unplaced k os t) ∙ there_unplaced unplaced_object (find_object k os t)))

brace_unplaced : (o : Option Word) → brace_faults (if_there unplaced_word o) ≡ at_zero (brace_faults o)
unfolding brace_faults if_there each
brace_unplaced none = refl
brace_unplaced (some t) = if_unplaced true t 15

value_fault : (x : Statement) (d : Defined)
    → faults_if (not (fits (unplaced_definition d.definition) (unplaced_values d.values) (unplaced_word x.value))) (unplaced_word x.value) 15
    ≡ at_zero (faults_if (not (fits d.definition d.values x.value)) x.value 15)
value_fault x d = if_same x.value 15 (ap not (fits_unplaced d.definition d.values x.value))

own_reference : (k : Kind) (os : List Object) (t : Word)
    → reference_faults (each unplaced_object os) k (sort_of (unplaced_word t).class) (unplaced_word t) ≡ at_zero (reference_faults os k (sort_of t.class) t)
unfolding unplaced_word
own_reference k os t = reference_unplaced os k (sort_of t.class) t

as_unplaced : (y : AttributeType) (os : List Object) (x : Statement) (d : Defined)
    → faults_as y (each unplaced_object os) (unplaced_statement x) (unplaced_defined d) ≡ at_zero (faults_as y os x d)
unfolding faults_as unplaced_statement unplaced_defined
as_unplaced (integer i) os x d = value_fault x d
as_unplaced string os x d = value_fault x d
as_unplaced float os x d = value_fault x d
as_unplaced boolean os x d = value_fault x d
as_unplaced enum os x d = value_fault x d
as_unplaced (reference k) os x d =
    append_unplaced (reference_faults os k (sort_of x.value.class) x.value) (brace_faults x.brace) (own_reference k os x.value) (brace_unplaced x.brace)

own_unplaced : (os : List Object) (x : Statement) (d : Defined) (before : List Word)
    → own_faults (each unplaced_object os) (unplaced_statement x) (unplaced_defined d) (each unplaced_word before) ≡ at_zero (own_faults os x d before)
unfolding own_faults unplaced_statement unplaced_defined unplaced_definition
own_unplaced os x d before =
    append_unplaced (faults_if (both (not d.definition.list) (among x.name before)) x.name 14) (faults_as d.definition.type os x d)
    (if_same x.name 14 (ap (both (not d.definition.list)) (among_unplaced x.name before)))
    (as_unplaced d.definition.type os x d)

-- What is in the braces, and the same without places.
abbrev Inside : (Definitions → List Fault) → (Definitions → List Fault) → Type 0
Inside f g = (us : Definitions) → f (unplaced_definitions us) ≡ at_zero (g us)

and_unplaced : (own : List Fault) (x : Statement) (us : Definitions) (ns : List Word) (f g : Definitions → List Fault) → Inside f g
    → and_inside (at_zero own) (unplaced_statement x) (unplaced_definitions us) (each unplaced_word ns) f ≡ at_zero (and_inside own x us ns g)
unfolding and_inside each unplaced_statement
and_unplaced [] x us ns f g h = append_unplaced (faults_if (lacks us ns) x.value 16) (g us) (if_same x.value 16 (lacks_unplaced us ns)) (h us)
and_unplaced (e ∷ es) x us ns f g h = refl

or_unplaced : (o : Option Under) → definitions_or (if_there unplaced_under o) ≡ unplaced_definitions (definitions_or o)
unfolding definitions_or if_there unplaced_under unplaced_definitions
or_unplaced none = refl
or_unplaced (some u) = refl

under_unplaced : (vs : Values) (t : Word) → under (unplaced_values vs) (unplaced_word t) ≡ unplaced_definitions (under vs t)
unfolding under
under_unplaced vs t = ap definitions_or (value_unplaced vs t) ∙ or_unplaced (find_value vs t)

undefined_name : (x : Statement) → faults_if true (unplaced_statement x).name 13 ≡ at_zero (faults_if true x.name 13)
unfolding unplaced_statement
undefined_name x = if_unplaced true x.name 13

value_scope : (d : Defined) (x : Statement) → under (unplaced_defined d).values (unplaced_statement x).value ≡ unplaced_definitions (under d.values x.value)
unfolding unplaced_defined unplaced_statement
value_scope d x = under_unplaced d.values x.value

statement_definition : (ds : Definitions) (x : Statement) → find_definition (unplaced_definitions ds) (unplaced_statement x).name ≡ if_there unplaced_defined (find_definition ds x.name)
unfolding unplaced_statement
statement_definition ds x = definition_unplaced ds x.name

statement_behind : (before : List Word) (x : Statement) → each unplaced_word before ++ ((unplaced_statement x).name ∷ []) ≡ each unplaced_word (before ++ (x.name ∷ []))
unfolding unplaced_statement
statement_behind before x = behind unplaced_word before x.name

judged_unplaced : (o : Option Defined) (os : List Object) (x : Statement) (before ns : List Word) (f g : Definitions → List Fault) → Inside f g
    → judged (if_there unplaced_defined o) (each unplaced_object os) (unplaced_statement x) (each unplaced_word before) (each unplaced_word ns) f
    ≡ at_zero (judged o os x before ns g)
unfolding judged if_there
judged_unplaced none os x before ns f g h = undefined_name x
judged_unplaced (some d) os x before ns f g h =
    ap₂ (λ e us. and_inside e (unplaced_statement x) us (each unplaced_word ns) f) (own_unplaced os x d before) (value_scope d x)
    ∙ and_unplaced (own_faults os x d before) x (under d.values x.value) ns f g h

judge_unplaced : (ss : Statements) (os : List Object) (ds : Definitions) (before : List Word)
    → judge (unplaced_statements ss) (each unplaced_object os) (unplaced_definitions ds) (each unplaced_word before) ≡ at_zero (judge ss os ds before)
unfolding judge unplaced_statements each
judge_unplaced done os ds before = refl
judge_unplaced (state x inside rest) os ds before =
    append_unplaced (judged (find_definition ds x.name) os x before (names inside) (λ us. judge inside os us [])) (judge rest os ds (before ++ (x.name ∷ [])))
    (ap₂ (λ o ns. judged o (each unplaced_object os) (unplaced_statement x) (each unplaced_word before) ns (λ us. judge (unplaced_statements inside) (each unplaced_object os) us []))
    (statement_definition ds x) (names_unplaced inside)
    ∙ judged_unplaced (find_definition ds x.name) os x before (names inside)
    (λ us. judge (unplaced_statements inside) (each unplaced_object os) us []) (λ us. judge inside os us []) (λ us. judge_unplaced inside os us []))
    (ap (judge (unplaced_statements rest) (each unplaced_object os) (unplaced_definitions ds)) (statement_behind before x) ∙ judge_unplaced rest os ds (before ++ (x.name ∷ [])))

judge_object_unplaced : (f : File) (x : Object) (ds : Definitions) → judge_object (unplaced f) (unplaced_object x) (unplaced_definitions ds) ≡ at_zero (judge_object f x ds)
unfolding judge_object unplaced unplaced_object each
judge_object_unplaced f x ds =
    append_unplaced (faults_if (lacks ds (names x.statements)) x.name 16) (judge x.statements f.objects ds [])
    (if_same x.name 16 (ap (lacks (unplaced_definitions ds)) (names_unplaced x.statements) ∙ lacks_unplaced ds (names x.statements)))
    (judge_unplaced x.statements f.objects ds [])

object_scope : (f : File) (x : Object) → of_kind (unplaced_object x).kind (unplaced f).specs ≡ unplaced_definitions (of_kind x.kind f.specs)
unfolding unplaced unplaced_object
object_scope f x = kind_unplaced x.kind f.specs

judge_objects_unplaced : (f : File) (xs : List Object) → judge_objects (unplaced f) (each unplaced_object xs) ≡ at_zero (judge_objects f xs)
unfolding judge_objects each
judge_objects_unplaced f [] = refl
judge_objects_unplaced f (x ∷ xs) =
    append_unplaced (judge_object f x (of_kind x.kind f.specs)) (judge_objects f xs)
    (ap (judge_object (unplaced f) (unplaced_object x)) (object_scope f x) ∙ judge_object_unplaced f x (of_kind x.kind f.specs))
    (judge_objects_unplaced f xs)

pub statement_stage_unplaced : (f : File) → statement_stage (unplaced f) ≡ each unplaced_fault (statement_stage f)
unfolding statement_stage unplaced
statement_stage_unplaced f = judge_objects_unplaced f f.objects

-- Answers ----------------------------------------------------------------------------------------------------------------------------------

-- Both accept, with the same tables but places, or both refuse.
pub data SameAnswer : Answer → Answer → Type 0 where
  both_accept : (t : Tables) → SameAnswer (accepted t) (accepted (unplaced_tables t))
  both_refuse : (n p m q : ℕ) → SameAnswer (refused n p) (refused m q)

both_faults : (f g : Fault) (o r : Option Fault) (k l : Unit {0} → Answer) → SameAnswer (unless (sooner (some f) o) k) (unless (sooner (some g) r) l)
unfolding unless sooner
both_faults f g none none k l = both_refuse _ _ _ _
both_faults f g none (some b) k l = both_refuse _ _ _ _
both_faults f g (some a) none k l = both_refuse _ _ _ _
both_faults f g (some a) (some b) k l = both_refuse _ _ _ _

by_stage : (fs gs : List Fault) (k l : Unit {0} → Answer) → gs ≡ at_zero fs → SameAnswer (k tt) (l tt) → SameAnswer (unless (first fs) k) (unless (first gs) l)
unfolding unless first each
by_stage fs gs k l e h = subst (λ x. SameAnswer (unless (first fs) k) (unless (first x) l)) (sym e) (go fs)
  where
    go : (fs : List Fault) → SameAnswer (unless (first fs) k) (unless (first (at_zero fs)) l)
    go [] = h
    go (f ∷ fs) = both_faults f (unplaced_fault f) (first fs) (first (at_zero fs)) k l

too_many_unplaced : (n : ℕ) → too_many n ≡ at_zero (too_many n)
unfolding too_many each choose unplaced_fault
too_many_unplaced n = go (ltb 2048 n)
  where
    go : (b : Bool) → choose b (λ _. record { place = 0; number = 19 } ∷ []) (λ _. []) ≡ at_zero (choose b (λ _. record { place = 0; number = 19 } ∷ []) (λ _. []))
    go true = refl
    go false = refl

object_values_are : (f : File) → all_values (unplaced f) (unplaced f).objects ≡ each unplaced_resolved (all_values f f.objects)
unfolding unplaced
object_values_are f = all_values_unplaced f f.objects

value_stage : (f : File) → too_many (how_many_in_all (all_values (unplaced f) (unplaced f).objects)) ≡ at_zero (too_many (how_many_in_all (all_values f f.objects)))
value_stage f =
    ap too_many (ap how_many_in_all (object_values_are f) ∙ how_many_all_unplaced (all_values f f.objects)) ∙ too_many_unplaced (how_many_in_all (all_values f f.objects))

accepted_tables : (f : File) → tables (unplaced f) (all_values (unplaced f) (unplaced f).objects) ≡ unplaced_tables (tables f (all_values f f.objects))
accepted_tables f = ap (tables (unplaced f)) (object_values_are f) ∙ tables_unplaced f (all_values f f.objects)

-- The syntax without its places is accepted exactly where the syntax is.
pub answer_unplaced : (f : File) → SameAnswer (answer f) (answer (unplaced f))
unfolding answer
answer_unplaced f =
    by_stage (definition_faults f) (definition_faults (unplaced f)) _ _ (definition_faults_unplaced f)
    (by_stage (object_faults f) (object_faults (unplaced f)) _ _ (object_faults_unplaced f)
    (by_stage (statement_stage f) (statement_stage (unplaced f)) _ _ (statement_stage_unplaced f)
    (by_stage (too_many (how_many_in_all (all_values f f.objects))) (too_many (how_many_in_all (all_values (unplaced f) (unplaced f).objects))) _ _ (value_stage f)
    (subst (λ t. SameAnswer (accepted (tables f (all_values f f.objects))) (accepted t)) (sym (accepted_tables f)) (both_accept (tables f (all_values f f.objects)))))))
