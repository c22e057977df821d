-- The word that is written for a value is taken as the value's own word is. Assumes nothing.
use mathlib.Core.Path.{◌≡◌, refl, sym, ◌∙◌, ap, ap₂, subst}
use mathlib.Core.List.{List, [], ◌∷◌, ◌++◌}
use mathlib.Core.Bool.{true, false, not, false≢true}
use mathlib.Core.Option.{Option, none, some}
use Rattle.grammar.specs.Grammar.{Kind}
use Rattle.token.specs.Find.{pick, both, is_there}
use Rattle.token.specs.Words.{same}
use Rattle.meaning.specs.Syntax.{Word, AttributeType, integer, string, boolean, enum, float, reference, Definition, Values, no_value, value, Statement, Object, is_enum}
use Rattle.meaning.specs.Words.{alike}
use Rattle.meaning.specs.Kinds.{same_kind}
use Rattle.meaning.specs.Faults.{faults_if}
use Rattle.meaning.specs.Scopes.{Sort, a_number, a_string, a_truth, an_auto, a_no_default, a_name, a_float, sort_of, find_value, definitions_or, under, find_object, fits_number, fits_as, fits}
use Rattle.meaning.specs.Judging.{reference_faults, brace_faults, faults_as}
use Rattle.meaning.specs.Resolving.{Value, number, truth, auto, enumerator, object, number_or, row_or, named, valued, string as string-value, float as float_value}
use Rattle.meaning.specs.Normal.{written}
use Rattle.meaning.proofs.Unplaced.{unplaced_word}
use Rattle.reads_back.proofs.Restated.{restated_word}
use Rattle.reads_back.proofs.WordingClasses.{is_number}
use Rattle.reads_back.proofs.RestatingScopes.{is_reference, Taking, numbered, told, referred}

-- Words are looked up by their bytes -------------------------------------------------------------------------------------------------------

find_value_bytes : (vs : Values) (t u : Word) → t.bytes ≡ u.bytes → find_value vs t ≡ find_value vs u
unfolding find_value alike
find_value_bytes no_value t u e = refl
find_value_bytes (value w n us vs) t u e =
    ap₂ (λ b r. pick b (some (record { word = w; number = n; definitions = us })) r) (ap (same w.bytes) e) (find_value_bytes vs t u e)

-- An object is found by the bytes of its name.
pub find_object_bytes : (k : Kind) (os : List Object) (t u : Word) → t.bytes ≡ u.bytes → find_object k os t ≡ find_object k os u
unfolding find_object alike
find_object_bytes k [] t u e = refl
find_object_bytes k (x ∷ xs) t u e =
    ap₂ (λ b r. pick (both (same_kind k x.kind) b) (some x) r) (ap (same x.name.bytes) e) (find_object_bytes k xs t u e)

-- Objects of which each has the row of one of the others, of its kind and name.
pub record SameObjects (os os' : List Object) : Type 0 where
  pub row : (k : Kind) (t : Word) → row_or (find_object k os' t) ≡ row_or (find_object k os t)
  pub there : (k : Kind) (t : Word) → is_there (find_object k os' t) ≡ is_there (find_object k os t)

-- A word without its place ------------------------------------------------------------------------------------------------------------------

value_without : (vs : Values) (t : Word) → find_value vs (unplaced_word t) ≡ find_value vs t
unfolding unplaced_word
value_without vs t = find_value_bytes vs _ t refl

object_without : (k : Kind) (os : List Object) (t : Word) → find_object k os (unplaced_word t) ≡ find_object k os t
unfolding unplaced_word
object_without k os t = find_object_bytes k os _ t refl

under_without : (vs : Values) (t : Word) → under vs (unplaced_word t) ≡ under vs t
unfolding under
under_without vs t = ap definitions_or (value_without vs t)

fits_as_without : (o : Sort) (d : Definition) (vs : Values) (t : Word) → fits_as o d vs (unplaced_word t) ≡ fits_as o d vs t
unfolding fits_as unplaced_word
fits_as_without a_number d vs t = refl
fits_as_without a_string d vs t = refl
fits_as_without a_float d vs t = refl
fits_as_without a_truth d vs t = refl
fits_as_without an_auto d vs t = refl
fits_as_without a_no_default d vs t = refl
fits_as_without a_name d vs t = ap (λ o. both (is_enum d.type) (is_there o)) (value_without vs t)

fits_without : (d : Definition) (vs : Values) (t : Word) → fits d vs (unplaced_word t) ≡ fits d vs t
unfolding fits unplaced_word
fits_without d vs t = fits_as_without (sort_of t.class) d vs t

module _ {os os' : List Object} (same-objects : SameObjects os os') where
  named_without : (y : AttributeType) (vs : Values) (t : Word) → named y os' vs (unplaced_word t) ≡ named y os vs t
  unfolding named
  named_without (integer i) vs t = refl
  named_without string vs t = refl
  named_without float vs t = refl
  named_without boolean vs t = refl
  named_without enum vs t = ap (λ o. enumerator (number_or o)) (value_without vs t)
  named_without (reference k) vs t = ap object (ap row_or (object_without k os' t) ∙ same-objects.row k t)

  valued_without : (o : Sort) (d : Definition) (vs : Values) (t : Word) → valued o os' d vs (unplaced_word t) ≡ valued o os d vs t
  unfolding valued unplaced_word
  valued_without a_number d vs t = refl
  valued_without a_string d vs t = refl
  valued_without a_float d vs t = refl
  valued_without a_truth d vs t = refl
  valued_without an_auto d vs t = refl
  valued_without a_no_default d vs t = refl
  valued_without a_name d vs t = named_without d.type vs t

  word_valued : (d : Definition) (vs : Values) (t : Word)
      → valued (sort_of (unplaced_word t).class) os' d vs (unplaced_word t) ≡ valued (sort_of t.class) os d vs t
  unfolding unplaced_word
  word_valued d vs t = valued_without (sort_of t.class) d vs t

-- The written word -------------------------------------------------------------------------------------------------------------------------

-- The word that is written for the value t.
unfoldable pub value_word : List Object → Definition → Values → Word → Word
value_word os d vs t = restated_word (valued (sort_of t.class) os d vs t) t

-- The number of t, in decimal.
unfoldable number_word : Word → Word
number_word t = restated_word (number t.number) t

named_kept : (y : AttributeType) (os : List Object) (vs : Values) (t : Word) → restated_word (named y os vs t) t ≡ unplaced_word t
unfolding restated_word named
named_kept (integer i) os vs t = refl
named_kept string os vs t = refl
named_kept float os vs t = refl
named_kept boolean os vs t = refl
named_kept enum os vs t = refl
named_kept (reference k) os vs t = refl

-- What is no number is written as it stands.
pub valued_kept : (o : Sort) (os : List Object) (d : Definition) (vs : Values) (t : Word) → is_number o ≡ false → restated_word (valued o os d vs t) t ≡ unplaced_word t
unfolding restated_word valued is_number
valued_kept a_number os d vs t e = absurd (false≢true (sym e))
valued_kept a_string os d vs t e = refl
valued_kept a_float os d vs t e = refl
valued_kept a_truth os d vs t e = refl
valued_kept an_auto os d vs t e = refl
valued_kept a_no_default os d vs t e = refl
valued_kept a_name os d vs t e = named_kept d.type os vs t

-- A value is written as it stands, unless it is a number.
word_kept : (os : List Object) (d : Definition) (vs : Values) (t : Word) → is_number (sort_of t.class) ≡ false → value_word os d vs t ≡ unplaced_word t
unfolding value_word
word_kept os d vs t e = valued_kept (sort_of t.class) os d vs t e

word_number : (os : List Object) (d : Definition) (vs : Values) (t : Word) → sort_of t.class ≡ a_number → value_word os d vs t ≡ number_word t
unfolding value_word number_word valued
word_number os d vs t e = ap (λ o. restated_word (valued o os d vs t) t) e

name_kept : (t : Word) → sort_of t.class ≡ a_name → is_number (sort_of t.class) ≡ false
unfolding is_number
name_kept t e = ap is_number e

-- The written word of a value is written as it is.
pub written_kept : (v : Value) (t : Word) → written v (restated_word v t) ≡ written v t
unfolding written restated_word unplaced_word
written_kept (number n) t = refl
written_kept (truth b) t = refl
written_kept auto t = refl
written_kept string-value t = refl
written_kept float_value t = refl
written_kept (enumerator e) t = refl
written_kept (object o) t = refl

-- What is under it.
pub under_kept : {os : List Object} (d : Definition) (vs : Values) (t : Word) → Taking os d vs t → under vs (value_word os d vs t) ≡ under vs t
unfolding under find_value
under_kept {os} d vs t (numbered e r f v) = subst (λ us. under us (value_word os d vs t) ≡ under us t) (sym v) refl
under_kept {os} d vs t (told e r f) = ap (under vs) (word_kept os d vs t e) ∙ under_without vs t
under_kept {os} d vs t (referred y v e h) = subst (λ us. under us (value_word os d vs t) ≡ under us t) (sym v) refl

number_valued : (os os' : List Object) (d : Definition) (vs : Values) (t : Word)
    → valued (sort_of (number_word t).class) os' d vs (number_word t) ≡ valued a_number os d vs t
unfolding number_word restated_word valued sort_of
number_valued os os' d vs t = refl

number_fits : (d : Definition) (vs : Values) (t : Word) → fits d vs (number_word t) ≡ fits_number d.type d.bounds t.number
unfolding number_word restated_word fits fits_as sort_of
number_fits d vs t = refl

-- Its value.
pub value_kept : {os os' : List Object} → SameObjects os os' → (d : Definition) (vs : Values) (t : Word) → Taking os d vs t
    → valued (sort_of (value_word os d vs t).class) os' d vs (value_word os d vs t) ≡ valued (sort_of t.class) os d vs t
value_kept {os} {os'} h d vs t (numbered e r f v) =
    ap (λ w. valued (sort_of w.class) os' d vs w) (word_number os d vs t e)
    ∙ number_valued os os' d vs t ∙ ap (λ o. valued o os d vs t) (sym e)
value_kept {os} {os'} h d vs t (told e r f) = ap (λ w. valued (sort_of w.class) os' d vs w) (word_kept os d vs t e) ∙ word_valued h d vs t
value_kept {os} {os'} h d vs t (referred y v e i) =
    ap (λ w. valued (sort_of w.class) os' d vs w) (word_kept os d vs t (name_kept t e)) ∙ word_valued h d vs t

-- Its faults -------------------------------------------------------------------------------------------------------------------------------

fits_faults : (y : AttributeType) (os : List Object) (x : Statement) (d : Definition) (vs : Values) → is_reference y ≡ false → fits d vs x.value ≡ true
    → faults_as y os x (record { definition = d; values = vs }) ≡ []
unfolding faults_as is_reference faults_if
fits_faults (integer i) os x d vs r e = ap (λ b. faults_if (not b) x.value 15) e
fits_faults string os x d vs r e = ap (λ b. faults_if (not b) x.value 15) e
fits_faults float os x d vs r e = ap (λ b. faults_if (not b) x.value 15) e
fits_faults boolean os x d vs r e = ap (λ b. faults_if (not b) x.value 15) e
fits_faults enum os x d vs r e = ap (λ b. faults_if (not b) x.value 15) e
fits_faults (reference k) os x d vs r e = absurd (false≢true (sym r))

reference_there : (os : List Object) (k : Kind) (o : Sort) (t : Word) → o ≡ a_name → is_there (find_object k os t) ≡ true → reference_faults os k o t ≡ []
unfolding reference_faults faults_if
reference_there os k o t e h = ap (λ s. reference_faults os k s t) e ∙ ap (λ b. faults_if (not b) t 18) h

brace_none : (o : Option Word) → o ≡ none → brace_faults o ≡ []
unfolding brace_faults
brace_none o e = ap brace_faults e

refers_faults : (os : List Object) (x : Statement) (d : Definition) (vs : Values) (k : Kind) → sort_of x.value.class ≡ a_name
    → is_there (find_object k os x.value) ≡ true → x.brace ≡ none → faults_as (reference k) os x (record { definition = d; values = vs }) ≡ []
unfolding faults_as
refers_faults os x d vs k e h b = ap₂ ◌++◌ (reference_there os k (sort_of x.value.class) x.value e h) (brace_none x.brace b)

unplaced_sort : (t : Word) → sort_of (unplaced_word t).class ≡ sort_of t.class
unfolding unplaced_word
unplaced_sort t = refl

-- A statement of the written word has no fault of 15 and 18.
pub faults_kept : {os os' : List Object} → SameObjects os os' → (d : Definition) (vs : Values) (t : Word) (x : Statement) → Taking os d vs t
    → x.value ≡ value_word os d vs t → (vs ≡ no_value → x.brace ≡ none)
    → faults_as d.type os' x (record { definition = d; values = vs }) ≡ []
faults_kept {os} {os'} h d vs t x (numbered e r f v) w b =
    fits_faults d.type os' x d vs r (ap (fits d vs) (w ∙ word_number os d vs t e) ∙ number_fits d vs t ∙ f)
faults_kept {os} {os'} h d vs t x (told e r f) w b =
    fits_faults d.type os' x d vs r (ap (fits d vs) (w ∙ word_kept os d vs t e) ∙ fits_without d vs t ∙ f)
faults_kept {os} {os'} h d vs t x (referred {k} y v e i) w b =
    let q = w ∙ word_kept os d vs t (name_kept t e) in
    subst (λ z. faults_as z os' x (record { definition = d; values = vs }) ≡ []) (sym y)
    (refers_faults os' x d vs k
    (ap (λ u. sort_of u.class) q ∙ unplaced_sort t ∙ e)
    (ap (λ u. is_there (find_object k os' u)) q ∙ ap is_there (object_without k os' t) ∙ h.there k t ∙ i)
    (b v))
