-- The ranges of an accepted text have no fault, is_true the test of bounds is that of the sets of numbers. Assumes nothing.
use mathlib.Core.Path.{◌≡◌, refl, sym, ◌∙◌, ap, subst}
use mathlib.Core.List.{List, [], ◌∷◌, ◌++◌}
use mathlib.Core.Bool.{Bool, true, false, not, false≢true}
use mathlib.Core.Option.{Option, none, some}
use Prim.Native.Nat.{ℕ}
use Rattle.token.specs.Tokens.{step_at}
use Rattle.token.specs.Words.{same, bytes_of}
use Rattle.token.specs.declared.Cursor.{Cursor}
use Rattle.token.specs.declared.Token.{Token as Lexeme}
use Rattle.token.specs.declared.Sort.{Sort}
use Rattle.token.specs.declared.Sort.TheVariants.{Word as WordToken, Number, String, Punctuator, Float}
use Rattle.token.specs.declared.Step.{Step}
use Rattle.token.specs.declared.Step.TheVariants.{Found, Refused, End}
use Rattle.locality.proofs.Decimals.{WithinLimits, found_number}
use Rattle.grammar.specs.Grammar.{Integer}
use Rattle.meaning.specs.Syntax.{Word, AttributeType, integer, Bounds, no_bounds, from_to, one_of, Definition, Definitions, Values, Defined, Spec, File, is_enum}
use Rattle.meaning.specs.Words.{num_at_most, in_type}
use Rattle.meaning.specs.Actions.{num_of_sort, num_of_step, zero_num}
use Rattle.meaning.specs.Faults.{Fault, faults_if, first}
use Rattle.meaning.specs.Scopes.{heads}
use Rattle.meaning.specs.Defining.{outside, bound_faults, range_faults, default_faults, name_faults, word_faults, scope_faults, value_faults, specified, spec_faults, definition_faults}
use Rattle.meaning.specs.Answers.{Answer, Tables, accepted, unless, answer}
use Rattle.meaning.proofs.Rooms.{not_faulty, no_first}
use Rattle.meaning.proofs.Sites.{bound_words, option_words, definition_words, value_words}
use Rattle.scopes.specs.Situations.{Situation, HasDefinition, this_definition, later_definition, HasValue, this_value, later_value, HasSpec, this_spec, later_spec, Stands, under_kind, under_value}
use Rattle.scopes.proofs.Goodness.{Good, Goods, good_front, good_back}
use Rattle.scopes.proofs.Descents.{scope_facts}
use Rattle.standard.specs.Conforming.{Proper}
use Rattle.standard.proofs.Members.{none_left, none_right}
use Rattle.standard.proofs.Numbers.{AllOf, Faultless}
use Rattle.standard.proofs.Truths.{is_true}

-- Numbers of a text --------------------------------------------------------------------------------------------------------------------------

number_proper : (b : Bool) (m : ℕ) → WithinLimits b m → Proper (record { negative = b; amount = m })
number_proper true m w h = w.0
number_proper false m w h = absurd (false≢true h)

sort_proper : (s : List ℕ) (p : ℕ) (t : Lexeme) (c : Cursor) → step_at s p ≡ Found t c → (k : Sort) → t.sort ≡ k → Proper (num_of_sort k)
unfolding num_of_sort zero_num
sort_proper s p t c e (WordToken k) q h = absurd (false≢true h)
sort_proper s p t c e (Number b m) q h = number_proper b m (found_number s p t c b m e q) h
sort_proper s p t c e String q h = absurd (false≢true h)
sort_proper s p t c e (Punctuator b) q h = absurd (false≢true h)
sort_proper s p t c e (Float b m k) q h = absurd (false≢true h)

step_proper : (s : List ℕ) (p : ℕ) (r : Step) → step_at s p ≡ r → Proper (num_of_step r)
unfolding num_of_step zero_num
step_proper s p (Found t c) e h = sort_proper s p t c e t.sort refl h
step_proper s p (Refused q) e h = absurd (false≢true h)
step_proper s p (End n) e h = absurd (false≢true h)

word_proper : {s : List ℕ} {w : Word} → Good s w → Proper w.number
word_proper {s} {w} g = subst Proper (sym g.read.number) (step_proper s w.place (step_at s w.place) refl)

-- A range without a fault ----------------------------------------------------------------------------------------------------------------------

all_of : (s : List ℕ) (i : Integer) (ts : List Word) → Goods s ts → outside i ts ≡ [] → AllOf i ts
unfolding outside
all_of s i [] g e = tt
all_of s i (t ∷ ts) g e = (
  word_proper g.0,
  is_true (in_type i t.number) (not_faulty (not (in_type i t.number)) t 21 (none_left (faults_if (not (in_type i t.number)) t 21) (outside i ts) e)),
  all_of s i ts g.1 (none_right (faults_if (not (in_type i t.number)) t 21) (outside i ts) e),
)

faultless : (s : List ℕ) (i : Integer) (b : Bounds) → Goods s (bound_words b) → bound_faults i b ≡ [] → Faultless i b
unfolding bound_faults bound_words
faultless s i no_bounds g e = tt
faultless s i (from_to a b) g e =
    let l = not_faulty (not (num_at_most a.number b.number)) a 21 (none_left (faults_if (not (num_at_most a.number b.number)) a 21) (outside i (a ∷ (b ∷ []))) e) in
    let o = all_of s i (a ∷ (b ∷ [])) g (none_right (faults_if (not (num_at_most a.number b.number)) a 21) (outside i (a ∷ (b ∷ []))) e) in
    (o.0, o.2.0, o.1, o.2.1, is_true (num_at_most a.number b.number) l)
faultless s i (one_of ts) g e = all_of s i ts g e

-- The definitions of a text without a fault -----------------------------------------------------------------------------------------------------

record Clean (ds : Definitions) : Type 0 where
  others : List Definition
  before : List Definition
  clean : scope_faults ds others before ≡ []

range_clean : {ds : Definitions} {x : Defined} (o b : List Definition) → HasDefinition ds x → scope_faults ds o b ≡ [] → range_faults x.definition.type x.definition.bounds ≡ []
unfolding scope_faults
range_clean o b (this_definition {d} {vs} {ds}) e =
    let rf = range_faults d.type d.bounds in
    let vf = value_faults vs (is_enum d.type) [] [] in
    let nf = name_faults d o b ++ default_faults d vs d.default in
    none_left rf (vf ++ nf) (none_left (rf ++ (vf ++ nf)) (scope_faults ds o (b ++ (d ∷ []))) e)
range_clean o b (later_definition {d} {vs} {ds} h) e =
    let rf = range_faults d.type d.bounds in
    let vf = value_faults vs (is_enum d.type) [] [] in
    let nf = name_faults d o b ++ default_faults d vs d.default in
    range_clean o (b ++ (d ∷ [])) h (none_right (rf ++ (vf ++ nf)) (scope_faults ds o (b ++ (d ∷ []))) e)

values_of : {ds : Definitions} {x : Defined} (o b : List Definition) → HasDefinition ds x → scope_faults ds o b ≡ [] → value_faults x.values (is_enum x.definition.type) [] [] ≡ []
unfolding scope_faults
values_of o b (this_definition {d} {vs} {ds}) e =
    let rf = range_faults d.type d.bounds in
    let vf = value_faults vs (is_enum d.type) [] [] in
    let nf = name_faults d o b ++ default_faults d vs d.default in
    none_left vf nf (none_right rf (vf ++ nf) (none_left (rf ++ (vf ++ nf)) (scope_faults ds o (b ++ (d ∷ []))) e))
values_of o b (later_definition {d} {vs} {ds} h) e =
    let rf = range_faults d.type d.bounds in
    let vf = value_faults vs (is_enum d.type) [] [] in
    let nf = name_faults d o b ++ default_faults d vs d.default in
    values_of o (b ++ (d ∷ [])) h (none_right (rf ++ (vf ++ nf)) (scope_faults ds o (b ++ (d ∷ []))) e)

value_clean : {vs : Values} {v : _} (c : Bool) (b : List Word) (o : List Definition) → HasValue vs v → value_faults vs c b o ≡ [] → Clean v.definitions
unfolding scope_faults
value_clean c b o (this_value {w} {e} {us} {vs}) h =
    record {
      others = o;
      before = [];
      clean = none_right (word_faults c e w b) (scope_faults us o []) (none_left (word_faults c e w b ++ scope_faults us o []) (value_faults vs c (b ++ (w ∷ [])) (o ++ heads us)) h);
    }
value_clean c b o (later_value {w} {e} {us} {vs} i) h =
    value_clean c (b ++ (w ∷ [])) (o ++ heads us) i (none_right (word_faults c e w b ++ scope_faults us o []) (value_faults vs c (b ++ (w ∷ [])) (o ++ heads us)) h)

spec_clean : {xs : List Spec} {x : Spec} (b : List Spec) → HasSpec xs x → spec_faults b xs ≡ [] → Clean x.definitions
unfolding spec_faults
spec_clean b (this_spec {x} {xs}) h =
    record {
      others = [];
      before = [];
      clean = none_right (faults_if (specified x b) x.word 8) (scope_faults x.definitions [] [])
          (none_left (faults_if (specified x b) x.word 8 ++ scope_faults x.definitions [] []) (spec_faults (b ++ (x ∷ [])) xs) h);
    }
spec_clean b (later_spec {x} {y} {xs} i) h =
    spec_clean (b ++ (y ∷ [])) i (none_right (faults_if (specified y b) y.word 8 ++ scope_faults y.definitions [] []) (spec_faults (b ++ (y ∷ [])) xs) h)

stands_clean : {xs : List Spec} {u : Word} {ds : Definitions} → spec_faults [] xs ≡ [] → Stands xs u ds → Clean ds
stands_clean e (under_kind h) = spec_clean [] h e
stands_clean e (under_value {x = x} p h v) =
    let k = stands_clean e p in
    value_clean (is_enum x.definition.type) [] [] v (values_of k.others k.before h k.clean)

bounds_good : (s : List ℕ) {ds : Definitions} {x : Defined} → HasDefinition ds x → Goods s (definition_words ds) → Goods s (bound_words x.definition.bounds)
unfolding definition_words
bounds_good s (this_definition {d} {vs} {ds}) g =
    let r = value_words vs ++ (d.name ∷ option_words d.default) in
    good_front s (bound_words d.bounds) r (good_front s (bound_words d.bounds ++ r) (definition_words ds) g.1)
bounds_good s (later_definition {d} {vs} {ds} h) g =
    let r = value_words vs ++ (d.name ∷ option_words d.default) in
    bounds_good s h (good_back s (bound_words d.bounds ++ r) (definition_words ds) g.1)

pub unless_none : (o : Option Fault) (k : Unit {0} → Answer) (t : Tables) → unless o k ≡ accepted t → (o ≡ none) × (k tt ≡ accepted t)
unfolding unless
unless_none none k t e = (refl, e)
unless_none (some x) k t e = absurd (let z : ◌≡◌ {A = Bool} false true = cc in false≢true z)

file_clean : (f : File) (t : Tables) → answer f ≡ accepted t → spec_faults [] f.specs ≡ []
unfolding answer definition_faults
file_clean f t e = none_right (faults_if (not (same f.version.bytes (bytes_of "\"2.5\""))) f.version 6) (spec_faults [] f.specs) (no_first (definition_faults f) (unless_none (first (definition_faults f)) _ t e).0)

pub range_is : {s : List ℕ} {f : File} {u : Word} {ds : Definitions} {x : Defined} (t : Tables) → Situation s f → answer f ≡ accepted t → Stands f.specs u ds → HasDefinition ds x
    → (k : Integer) → x.definition.type ≡ integer k → Faultless k x.definition.bounds
unfolding range_faults
range_is {s} {f} {x = x} t st e p h k q =
    let c = stands_clean (file_clean f t e) p in
    faultless s k x.definition.bounds (bounds_good s h (scope_facts st p).facts.good)
    (sym (ap (λ (y : AttributeType). range_faults y x.definition.bounds) q) ∙ range_clean c.others c.before h c.clean)
