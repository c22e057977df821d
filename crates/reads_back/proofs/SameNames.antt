-- The bytes of the words of which a syntax gives rows: the same without places. Assumes nothing.
use mathlib.Core.Path.{◌≡◌, refl, sym, ◌∙◌, ap, ap₂}
use mathlib.Core.List.{List, [], ◌∷◌, ◌++◌}
use mathlib.Core.Bool.{Bool, true, false}
use mathlib.Core.Option.{Option, none, some}
use Prim.Native.Nat.{ℕ, ◌+◌}
use Rattle.meaning.specs.Syntax.{Word, Definition, Definitions, no_more, define, Values, no_value, value, Spec, Object, File, is_enum}
use Rattle.meaning.specs.Resolving.{Value, number, truth, auto, string, float, enumerator, object, Taken, Resolved, end, resolved, object_values, all_values, how_many_values}
use Rattle.meaning.specs.Normal.{written}
use Rattle.meaning.specs.Places.{each}
use Rattle.meaning.proofs.Unplaced.{if_there, unplaced_word, unplaced_definition, unplaced_definitions, unplaced_values, unplaced_spec, unplaced_object, unplaced, unplaced_taken, unplaced_resolved, all_values_unplaced}
use Rattle.reads_back.specs.ReadsBack.{unless_number, RowWords}
use Rattle.reads_back.proofs.Restated.{restated_object, restated_objects}
use Rattle.reads_back.proofs.SameValues.{SameTaken, Same, same_end, same_more, SameAll, none_same, more_same}

-- Of definitions and enumerators ----------------------------------------------------------------------------------------------------------

-- The bytes of a word that may be there.
unfoldable pub option_bytes : Option Word → List ℕ
option_bytes none = []
option_bytes (some t) = t.bytes

-- A definition under the word u.
unfoldable pub definition_names : Word → Definition → List (List ℕ)
definition_names u d = u.bytes ∷ d.name.bytes ∷ d.word.bytes ∷ option_bytes d.default ∷ []

-- The definitions of a scope under the word u, in the order of their rows.
unfoldable mutual
  pub scope_names : Definitions → Word → List (List (List ℕ))
  scope_names no_more u = []
  scope_names (define d vs ds) u = scope_names_under vs ++ (definition_names u d ∷ scope_names ds u)

  -- The definitions under the values of a list.
  pub scope_names_under : Values → List (List (List ℕ))
  scope_names_under no_value = []
  scope_names_under (value w e us vs) = scope_names us w ++ scope_names_under vs

-- The word w of a list, if it is an enumerator.
unfoldable pub enumerator_name : Bool → Word → List (List ℕ)
enumerator_name true w = w.bytes ∷ []
enumerator_name false w = []

-- The enumerators of a scope, in the order of their rows.
unfoldable mutual
  pub enumerator_names : Definitions → List (List ℕ)
  enumerator_names no_more = []
  enumerator_names (define d vs ds) = enumerator_names_of vs (is_enum d.type) ++ enumerator_names ds

  -- The values of a list, if they are enumerators, and those under them.
  pub enumerator_names_of : Values → Bool → List (List ℕ)
  enumerator_names_of no_value b = []
  enumerator_names_of (value w e us vs) b = enumerator_name b w ++ (enumerator_names us ++ enumerator_names_of vs b)

-- The definitions of all kinds.
unfoldable pub all_scope_names : List Spec → List (List (List ℕ))
all_scope_names [] = []
all_scope_names (x ∷ xs) = scope_names x.definitions x.word ++ all_scope_names xs

-- The enumerators of all kinds.
unfoldable pub all_enumerator_names : List Spec → List (List ℕ)
all_enumerator_names [] = []
all_enumerator_names (x ∷ xs) = enumerator_names x.definitions ++ all_enumerator_names xs

-- Of objects and values -------------------------------------------------------------------------------------------------------------------

-- The kinds' words and the names of objects.
unfoldable pub object_names : List Object → List (List (List ℕ))
object_names [] = []
object_names (x ∷ xs) = (x.word.bytes ∷ x.name.bytes ∷ []) ∷ object_names xs

-- The words of resolved values, in the order of their rows.
unfoldable pub value_names : Resolved → List (List ℕ)
value_names end = []
value_names (resolved t us rest) = unless_number t.value t.word.bytes ∷ (value_names us ++ value_names rest)

-- Those of all objects.
unfoldable pub all_value_names : List Resolved → List (List ℕ)
all_value_names [] = []
all_value_names (r ∷ rs) = value_names r ++ all_value_names rs

-- A whole syntax.
unfoldable pub names_of : File → RowWords
names_of f = record {
  definitions = all_scope_names f.specs;
  enumerators = all_enumerator_names f.specs;
  objects = object_names f.objects;
  values = all_value_names (all_values f f.objects);
}

-- Words with the same parts.
pub words_same : {a a' : List (List (List ℕ))} {b b' : List (List ℕ)} {c c' : List (List (List ℕ))} {d d' : List (List ℕ)} → a ≡ a' → b ≡ b' → c ≡ c' → d ≡ d'
    → ◌≡◌ {A = RowWords} (record { definitions = a; enumerators = b; objects = c; values = d }) (record { definitions = a'; enumerators = b'; objects = c'; values = d' })
words_same p q r s = λ j. record { definitions = p j; enumerators = q j; objects = r j; values = s j }

-- Without places --------------------------------------------------------------------------------------------------------------------------

definition_names_unplaced : (u : Word) (d : Definition) → definition_names (unplaced_word u) (unplaced_definition d) ≡ definition_names u d
unfolding definition_names unplaced_word unplaced_definition option_bytes if_there
definition_names_unplaced u d = ap (λ b. u.bytes ∷ d.name.bytes ∷ d.word.bytes ∷ b ∷ []) (go d.default)
  where
    go : (o : Option Word) → option_bytes (if_there unplaced_word o) ≡ option_bytes o
    go none = refl
    go (some t) = refl

mutual
  unfolding scope_names unplaced_definitions

  scope_names_unplaced : (ds : Definitions) (u : Word) → scope_names (unplaced_definitions ds) (unplaced_word u) ≡ scope_names ds u
  scope_names_unplaced no_more u = refl
  scope_names_unplaced (define d vs ds) u = ap₂ ◌++◌ (under_unplaced vs) (ap₂ ◌∷◌ (definition_names_unplaced u d) (scope_names_unplaced ds u))

  under_unplaced : (vs : Values) → scope_names_under (unplaced_values vs) ≡ scope_names_under vs
  under_unplaced no_value = refl
  under_unplaced (value w e us vs) = ap₂ ◌++◌ (scope_names_unplaced us w) (under_unplaced vs)

enumerator_name_unplaced : (b : Bool) (w : Word) → enumerator_name b (unplaced_word w) ≡ enumerator_name b w
unfolding enumerator_name unplaced_word
enumerator_name_unplaced true w = refl
enumerator_name_unplaced false w = refl

mutual
  unfolding enumerator_names unplaced_definitions unplaced_definition

  enumerators_unplaced : (ds : Definitions) → enumerator_names (unplaced_definitions ds) ≡ enumerator_names ds
  enumerators_unplaced no_more = refl
  enumerators_unplaced (define d vs ds) = ap₂ ◌++◌ (list_unplaced vs (is_enum d.type)) (enumerators_unplaced ds)

  list_unplaced : (vs : Values) (b : Bool) → enumerator_names_of (unplaced_values vs) b ≡ enumerator_names_of vs b
  list_unplaced no_value b = refl
  list_unplaced (value w e us vs) b = ap₂ ◌++◌ (enumerator_name_unplaced b w) (ap₂ ◌++◌ (enumerators_unplaced us) (list_unplaced vs b))

all_scopes_unplaced : (xs : List Spec) → all_scope_names (each unplaced_spec xs) ≡ all_scope_names xs
unfolding all_scope_names each unplaced_spec
all_scopes_unplaced [] = refl
all_scopes_unplaced (x ∷ xs) = ap₂ ◌++◌ (scope_names_unplaced x.definitions x.word) (all_scopes_unplaced xs)

all_enumerators_unplaced : (xs : List Spec) → all_enumerator_names (each unplaced_spec xs) ≡ all_enumerator_names xs
unfolding all_enumerator_names each unplaced_spec
all_enumerators_unplaced [] = refl
all_enumerators_unplaced (x ∷ xs) = ap₂ ◌++◌ (enumerators_unplaced x.definitions) (all_enumerators_unplaced xs)

objects_unplaced : (xs : List Object) → object_names (each unplaced_object xs) ≡ object_names xs
unfolding object_names each unplaced_object unplaced_word
objects_unplaced [] = refl
objects_unplaced (x ∷ xs) = ap ((x.word.bytes ∷ x.name.bytes ∷ []) ∷◌) (objects_unplaced xs)

values_unplaced : (r : Resolved) → value_names (unplaced_resolved r) ≡ value_names r
unfolding value_names unplaced_resolved unplaced_taken unplaced_word
values_unplaced end = refl
values_unplaced (resolved t us rest) = ap₂ (λ a b. unless_number t.value t.word.bytes ∷ (a ++ b)) (values_unplaced us) (values_unplaced rest)

all_names_unplaced : (rs : List Resolved) → all_value_names (each unplaced_resolved rs) ≡ all_value_names rs
unfolding all_value_names each
all_names_unplaced [] = refl
all_names_unplaced (r ∷ rs) = ap₂ ◌++◌ (values_unplaced r) (all_names_unplaced rs)

-- The syntax without its places has the same words.
pub names_unplaced : (f : File) → names_of (unplaced f) ≡ names_of f
unfolding names_of unplaced
names_unplaced f =
    words_same (all_scopes_unplaced f.specs) (all_enumerators_unplaced f.specs) (objects_unplaced f.objects)
    (ap all_value_names (all_values_unplaced f f.objects) ∙ all_names_unplaced (all_values f f.objects))

-- Restated --------------------------------------------------------------------------------------------------------------------------------

-- The objects of a normal text have the same words and names.
pub objects_restated : (f : File) (xs : List Object) (k : ℕ) → object_names (restated_objects xs (all_values f xs) k) ≡ object_names xs
unfolding object_names restated_objects restated_object all_values unplaced_word
objects_restated f [] k = refl
objects_restated f (x ∷ xs) k = ap ((x.word.bytes ∷ x.name.bytes ∷ []) ∷◌) (objects_restated f xs (k + how_many_values (object_values f x)))

-- What is written for a value that is no number is its word.
as_written : (v : Value) (t : Word) → unless_number v t.bytes ≡ unless_number v (written v t)
unfolding unless_number written
as_written (number n) t = refl
as_written (truth b) t = refl
as_written auto t = refl
as_written string t = refl
as_written float t = refl
as_written (enumerator e) t = refl
as_written (object o) t = refl

same_word : {t u : Taken} → SameTaken t u → unless_number t.value t.word.bytes ≡ unless_number u.value u.word.bytes
same_word {t} {u} h = as_written t.value t.word ∙ ap₂ unless_number h.value h.writes ∙ sym (as_written u.value u.word)

same_names : {a b : Resolved} → Same a b → value_names a ≡ value_names b
unfolding value_names
same_names same_end = refl
same_names (same_more h p q) = ap₂ ◌∷◌ (same_word h) (ap₂ ◌++◌ (same_names p) (same_names q))

-- Values that are the same have the same words, but numbers.
pub all_same_names : {rs qs : List Resolved} → SameAll rs qs → all_value_names rs ≡ all_value_names qs
unfolding all_value_names
all_same_names none_same = refl
all_same_names (more_same p q) = ap₂ ◌++◌ (same_names p) (all_same_names q)
