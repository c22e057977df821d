-- What is known where a stage has no fault. Assumes nothing.
use mathlib.Core.Path.{◌≡◌, refl, sym, ◌∙◌, ap, subst}
use mathlib.Core.List.{List, [], ◌∷◌, ◌++◌}
use mathlib.Core.Bool.{Bool, true, false, not, false≢true}
use mathlib.Core.Option.{Option, none, some}
use Prim.Native.Nat.{ℕ}
use lib.Dec.{eqb}
use borrow.Author.Tests.{not-false}
use Rattle.grammar.specs.Grammar.{Kind}
use Rattle.grammar.proofs.Uniqueness.{none≢some}
use Rattle.token.specs.Find.{both, is_there}
use Rattle.token.proofs.Bytes.{neither_first, neither_second}
use Rattle.meaning.specs.Syntax.{Word, AttributeType, integer, string, boolean, enum, float, reference, Bounds, Definition, Definitions, define, Values, no_value, value, Defined, Statement, Statements, state, Object, is_enum}
use Rattle.meaning.specs.Words.{among}
use Rattle.meaning.specs.Faults.{Fault, faults_if}
use Rattle.meaning.specs.Scopes.{Sort, a_number, a_string, a_truth, an_auto, a_no_default, a_name, a_float, sort_of, under, find_definition, heads, names, find_object, fits_number, fits_as, fits}
use Rattle.meaning.specs.Defining.{range_faults, default_wrong, default_number, default_faults, defined_in, differs, name_faults, word_faults, scope_faults, value_faults}
use Rattle.meaning.specs.Judging.{is_no_default, taken_by, taken, lacking, lacks, lacks_under, reference_faults, brace_faults, faults_as, own_faults, and_inside, judged, judge}
use Rattle.meaning.proofs.Rooms.{nothing_front, nothing_back, not_faulty}
use Rattle.reads_back.proofs.WordingClasses.{is_number}
use Rattle.reads_back.proofs.RestatingScopes.{is_reference, Taking, numbered, told, referred}
use Rattle.reads_back.proofs.RestatingPlain.{Plain, plain_integer, plain_string, plain_boolean, plain_enum, plain_float, plain_reference}

-- Lists of faults --------------------------------------------------------------------------------------------------------------------------

some_fault : {f : Fault} {fs : List Fault} → ◌≡◌ {A = List Fault} (f ∷ fs) [] → ⊥
some_fault e = let z : ◌≡◌ {A = Bool} false true = cc in false≢true z

-- Definitions ------------------------------------------------------------------------------------------------------------------------------

-- What no fault of a definition and those behind it says.
pub record FreeDefinition (d : Definition) (vs : Values) (ds : Definitions) (others before : List Definition) : Type 0 where
  pub inside : value_faults vs (is_enum d.type) [] [] ≡ []
  pub name : defined_in d.name before ≡ false
  pub default : default_faults d vs d.default ≡ []
  pub rest : scope_faults ds others (before ++ (d ∷ [])) ≡ []

name_free : (d : Definition) (others before : List Definition) → name_faults d others before ≡ [] → defined_in d.name before ≡ false
unfolding name_faults
name_free d others before e =
    let b = faults_if (defined_in d.name before) d.name 8 in
    let c = faults_if (differs d others) d.name 9 in
    not_faulty (defined_in d.name before) d.name 8 (nothing_front b c (nothing_back (faults_if (eqb d.row 512) d.name 7) (b ++ c) e))

-- It holds where a scope has no fault.
pub free_definition : (d : Definition) (vs : Values) (ds : Definitions) (others before : List Definition) → scope_faults (define d vs ds) others before ≡ []
    → FreeDefinition d vs ds others before
unfolding scope_faults
free_definition d vs ds others before e =
    let a = range_faults d.type d.bounds in
    let b = value_faults vs (is_enum d.type) [] [] in
    let c = name_faults d others before in
    let f = default_faults d vs d.default in
    let r = scope_faults ds others (before ++ (d ∷ [])) in
    let i = nothing_back a (b ++ (c ++ f)) (nothing_front (a ++ (b ++ (c ++ f))) r e) in
    let j = nothing_back b (c ++ f) i in
    record { inside = nothing_front b (c ++ f) i; name = name_free d others before (nothing_front c f j); default = nothing_back c f j; rest = nothing_back (a ++ (b ++ (c ++ f))) r e }

-- The definitions under a value, and the values behind it.
pub free_value : (w : Word) (e : ℕ) (us : Definitions) (vs : Values) (b : Bool) (before : List Word) (others : List Definition) → value_faults (value w e us vs) b before others ≡ []
    → (scope_faults us others [] ≡ []) × (value_faults vs b (before ++ (w ∷ [])) (others ++ heads us) ≡ [])
unfolding scope_faults
free_value w e us vs b before others h =
    let a = word_faults b e w before in
    let c = scope_faults us others [] in
    let r = value_faults vs b (before ++ (w ∷ [])) (others ++ heads us) in
    (nothing_back a c (nothing_front (a ++ c) r h), nothing_back (a ++ c) r h)

-- What must be stated ----------------------------------------------------------------------------------------------------------------------

-- An attribute that is not stated lacks nothing,
pub free_lack : (d : Definition) (vs : Values) (ds : Definitions) (ns : List Word) → lacks (define d vs ds) ns ≡ false → among d.name ns ≡ false
    → lacking (taken d.default) d.list (λ t. lacks_under vs t) ≡ false
unfolding lacks
free_lack d vs ds ns e h =
    let l = lacking (taken d.default) d.list (λ t. lacks_under vs t) in
    ap (λ b. both (not b) l) (sym h) ∙ neither_first (both (not (among d.name ns)) l) (lacks ds ns) e

-- and neither do those behind it.
pub free_lacks : (d : Definition) (vs : Values) (ds : Definitions) (ns : List Word) → lacks (define d vs ds) ns ≡ false → lacks ds ns ≡ false
unfolding lacks
free_lacks d vs ds ns e = neither_second (both (not (among d.name ns)) (lacking (taken d.default) d.list (λ t. lacks_under vs t))) (lacks ds ns) e

-- An attribute without a default that is not stated is a list.
pub free_list : (o : Option Word) (b : Bool) (f : Word → Bool) → lacking o b f ≡ false → o ≡ none → b ≡ true
unfolding lacking
free_list none b f e q = not-false b e
free_list (some t) b f e q = absurd (none≢some (sym q))

-- Values -----------------------------------------------------------------------------------------------------------------------------------

number_plain : {y : AttributeType} {o : Option Word} {vs : Values} (b : Bounds) (n : _) → Plain y o vs → fits_number y b n ≡ true → vs ≡ no_value
unfolding fits_number
number_plain b n plain_integer e = refl
number_plain b n plain_string e = absurd (false≢true e)
number_plain b n plain_boolean e = absurd (false≢true e)
number_plain b n plain_enum e = absurd (false≢true e)
number_plain b n plain_float e = absurd (false≢true e)
number_plain b n plain_reference e = refl

-- What fits an attribute that is no reference.
fit_taking : (os : List Object) (d : Definition) (vs : Values) (t : Word) → Plain d.type d.default vs → is_reference d.type ≡ false → fits d vs t ≡ true → Taking os d vs t
unfolding fits fits_as is_number
fit_taking os d vs t p r e = go (sort_of t.class) refl e
  where
    go : (o : Sort) → sort_of t.class ≡ o → fits_as o d vs t ≡ true → Taking os d vs t
    go a_number q f = numbered q r f (number_plain d.bounds t.number p f)
    go a_string q f = told (ap is_number q) r e
    go a_float q f = told (ap is_number q) r e
    go a_truth q f = told (ap is_number q) r e
    go an_auto q f = told (ap is_number q) r e
    go a_no_default q f = told (ap is_number q) r e
    go a_name q f = told (ap is_number q) r e

-- 15 of a value that is no reference.
fits_free : (y : AttributeType) (os : List Object) (x : Statement) (d : Definition) (vs : Values) → is_reference y ≡ false
    → faults_as y os x (record { definition = d; values = vs }) ≡ [] → fits d vs x.value ≡ true
unfolding faults_as is_reference
fits_free (integer i) os x d vs r e = not-false (fits d vs x.value) (not_faulty (not (fits d vs x.value)) x.value 15 e)
fits_free string os x d vs r e = not-false (fits d vs x.value) (not_faulty (not (fits d vs x.value)) x.value 15 e)
fits_free float os x d vs r e = not-false (fits d vs x.value) (not_faulty (not (fits d vs x.value)) x.value 15 e)
fits_free boolean os x d vs r e = not-false (fits d vs x.value) (not_faulty (not (fits d vs x.value)) x.value 15 e)
fits_free enum os x d vs r e = not-false (fits d vs x.value) (not_faulty (not (fits d vs x.value)) x.value 15 e)
fits_free (reference k) os x d vs r e = absurd (false≢true (sym r))

-- 15 and 18 of a reference.
reference_free : (os : List Object) (k : Kind) (o : Sort) (t : Word) → reference_faults os k o t ≡ [] → (o ≡ a_name) × (is_there (find_object k os t) ≡ true)
unfolding reference_faults
reference_free os k a_number t e = absurd (false≢true (sym (not_faulty true t 15 e)))
reference_free os k a_string t e = absurd (false≢true (sym (not_faulty true t 15 e)))
reference_free os k a_float t e = absurd (false≢true (sym (not_faulty true t 15 e)))
reference_free os k a_truth t e = absurd (false≢true (sym (not_faulty true t 15 e)))
reference_free os k an_auto t e = absurd (false≢true (sym (not_faulty true t 15 e)))
reference_free os k a_no_default t e = absurd (false≢true (sym (not_faulty true t 15 e)))
reference_free os k a_name t e = (refl, not-false (is_there (find_object k os t)) (not_faulty (not (is_there (find_object k os t))) t 18 e))

reference_plain : {y : AttributeType} {o : Option Word} {vs : Values} {k : Kind} → Plain y o vs → y ≡ reference k → vs ≡ no_value
unfolding is_reference
reference_plain plain_integer e = refl
reference_plain plain_string e = absurd (false≢true (ap is_reference e))
reference_plain plain_boolean e = absurd (false≢true (ap is_reference e))
reference_plain plain_enum e = absurd (false≢true (ap is_reference e))
reference_plain plain_float e = absurd (false≢true (ap is_reference e))
reference_plain plain_reference e = refl

refers_free : (os : List Object) (x : Statement) (d : Definition) (vs : Values) (k : Kind) → Plain d.type d.default vs → d.type ≡ reference k
    → faults_as (reference k) os x (record { definition = d; values = vs }) ≡ [] → Taking os d vs x.value
unfolding faults_as
refers_free os x d vs k p y e =
    let f = reference_free os k (sort_of x.value.class) x.value
    (nothing_front (reference_faults os k (sort_of x.value.class) x.value) (brace_faults x.brace) e) in
    referred y (reference_plain p y) f.0 f.1

-- A stated value without faults is taken.
stated_taking : (os : List Object) (x : Statement) (d : Definition) (vs : Values) → Plain d.type d.default vs
    → faults_as d.type os x (record { definition = d; values = vs }) ≡ [] → Taking os d vs x.value
unfolding is_reference
stated_taking os x d vs p e = go d.type refl e
  where
    as_fit : is_reference d.type ≡ false → Taking os d vs x.value
    as_fit r = fit_taking os d vs x.value p r (fits_free d.type os x d vs r e)

    go : (y : AttributeType) → d.type ≡ y → faults_as y os x (record { definition = d; values = vs }) ≡ [] → Taking os d vs x.value
    go (integer i) q f = as_fit (ap is_reference q)
    go string q f = as_fit (ap is_reference q)
    go float q f = as_fit (ap is_reference q)
    go boolean q f = as_fit (ap is_reference q)
    go enum q f = as_fit (ap is_reference q)
    go (reference k) q f = refers_free os x d vs k p q f

-- A default that is taken fits.
default_fits : (o : Sort) (b : Bool) → is_no_default o ≡ false → default_wrong o b ≡ false → b ≡ true
unfolding is_no_default default_wrong
default_fits a_number b n e = not-false b e
default_fits a_string b n e = not-false b e
default_fits a_float b n e = not-false b e
default_fits a_truth b n e = not-false b e
default_fits an_auto b n e = not-false b e
default_fits a_no_default b n e = absurd (false≢true (sym n))
default_fits a_name b n e = not-false b e

default_plain : {y : AttributeType} {o : Option Word} {vs : Values} {t : Word} → Plain y o vs → o ≡ some t → is_reference y ≡ false
unfolding is_reference
default_plain plain_integer e = refl
default_plain plain_string e = refl
default_plain plain_boolean e = refl
default_plain plain_enum e = refl
default_plain plain_float e = refl
default_plain plain_reference e = absurd (none≢some e)

default_free : (d : Definition) (vs : Values) (o : Option Word) (t : Word) → default_faults d vs o ≡ [] → taken o ≡ some t → (o ≡ some t) × (fits d vs t ≡ true)
unfolding default_faults taken taken_by
default_free d vs none t e q = absurd (none≢some q)
default_free d vs (some u) t e q = go (is_no_default (sort_of u.class)) refl q
  where
    go : (b : Bool) → is_no_default (sort_of u.class) ≡ b → taken_by b u ≡ some t → (◌≡◌ {A = Option Word} (some u) (some t)) × (fits d vs t ≡ true)
    go true n h = absurd (none≢some h)
    go false n h =
        let z : u ≡ t = cc in
        let f = default_fits (sort_of u.class) (fits d vs u) n (not_faulty (default_wrong (sort_of u.class) (fits d vs u)) u (default_number (sort_of u.class)) e) in
        (h, subst (λ w. fits d vs w ≡ true) z f)

-- A default that is taken is a value of its attribute.
pub default_taking : (os : List Object) (d : Definition) (vs : Values) (t : Word) → Plain d.type d.default vs → default_faults d vs d.default ≡ []
    → taken d.default ≡ some t → Taking os d vs t
default_taking os d vs t p e q =
    let f = default_free d vs d.default t e q in
    fit_taking os d vs t p (default_plain p f.0) f.1

-- Statements -------------------------------------------------------------------------------------------------------------------------------

-- What no fault of a statement of the attribute d says: l are the names before it, inside the statements in its braces.
pub record FreeStatement (os : List Object) (x : Statement) (inside : Statements) (d : Definition) (vs : Values) (l : List Word) : Type 0 where
  pub again : both (not d.list) (among x.name l) ≡ false
  pub taking : Taking os d vs x.value
  pub lacks_none : lacks (under vs x.value) (names inside) ≡ false
  pub judged_none : judge inside os (under vs x.value) [] ≡ []

inside_free : (own : List Fault) (x : Statement) (us : Definitions) (ns : List Word) (k : Definitions → List Fault) → and_inside own x us ns k ≡ []
    → (own ≡ []) × ((lacks us ns ≡ false) × (k us ≡ []))
unfolding and_inside
inside_free [] x us ns k e =
    let a = faults_if (lacks us ns) x.value 16 in
    (refl, (not_faulty (lacks us ns) x.value 16 (nothing_front a (k us) e), nothing_back a (k us) e))
inside_free (f ∷ fs) x us ns k e = absurd (some_fault e)

-- It holds where a block has no fault.
pub free_statement : (os : List Object) (x : Statement) (inside rest : Statements) (all : Definitions) (d : Definition) (vs : Values) (l : List Word)
    → Plain d.type d.default vs → find_definition all x.name ≡ some (record { definition = d; values = vs }) → judge (state x inside rest) os all l ≡ []
    → FreeStatement os x inside d vs l
unfolding judge judged own_faults
free_statement os x inside rest all d vs l p q e =
    let z : Defined = record { definition = d; values = vs } in
    let k : Definitions → List Fault = λ us. judge inside os us [] in
    let a = judged (find_definition all x.name) os x l (names inside) k in
    let h : judged (some z) os x l (names inside) k ≡ [] =
    ap (λ o. judged o os x l (names inside) k) (sym q) ∙ nothing_front a (judge rest os all (l ++ (x.name ∷ []))) e in
    let i = inside_free (own_faults os x z l) x (under vs x.value) (names inside) k h in
    let b = faults_if (both (not d.list) (among x.name l)) x.name 14 in
    let c = faults_as d.type os x z in
    record {
      again = not_faulty (both (not d.list) (among x.name l)) x.name 14 (nothing_front b c i.0);
      taking = stated_taking os x d vs p (nothing_back b c i.0);
      lacks_none = i.1.0;
      judged_none = i.1.1;
    }

-- The statements behind one have no fault.
pub free_rest : (os : List Object) (x : Statement) (inside rest : Statements) (all : Definitions) (l : List Word) → judge (state x inside rest) os all l ≡ []
    → judge rest os all (l ++ (x.name ∷ [])) ≡ []
unfolding judge
free_rest os x inside rest all l e = nothing_back (judged (find_definition all x.name) os x l (names inside) (λ us. judge inside os us [])) (judge rest os all (l ++ (x.name ∷ []))) e

-- What is stated again is a list.
pub again_list : (b c : Bool) → both (not b) c ≡ false → c ≡ true → b ≡ true
again_list true c e h = refl
again_list false c e h = absurd (false≢true (sym e ∙ h))
