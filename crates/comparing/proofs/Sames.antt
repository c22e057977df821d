-- Contents that are alike have no difference: so has a text compared with itself. Assumes nothing.
use mathlib.Core.Path.{◌≡◌, refl, sym, ◌∙◌, ap, ap₂}
use mathlib.Core.List.{List, [], ◌∷◌, ◌++◌}
use mathlib.Core.Bool.{Bool, true, false, false≢true}
use mathlib.Core.Option.{Option, none, some}
use Rattle.token.specs.Find.{pick, is_there}
use Rattle.meaning.specs.Syntax.{File}
use Rattle.meaning.specs.Words.{choose}
use Rattle.comparing.specs.Lists.{the_first, each_of}
use Rattle.comparing.specs.Contents.{Placed, same_path, same_value, Content, contents, same_object}
use Rattle.comparing.specs.Differences.{object_in_second, value_in_second, values_differ, met, of_first_value, of_second_value, of_pair, matched, of_first_object, of_second_object, of_contents, differences}
use Rattle.comparing.proofs.Matching.{Apart, All, none_first, not_true}
use Rattle.comparing.proofs.Alikes.{keyed_flip, keyed_third, path_flip, path_third, path_same, value_keyed, object_keyed}
use Rattle.comparing.proofs.Swaps.{PathsApart, ObjectsApart, Sound, sound}

-- One of a list.
pub data In {A : Type 0} (x : A) : List A → Type 0 where
  here : {xs : List A} → In x (x ∷ xs)
  there : {y : A} {xs : List A} → In x xs → In x (y ∷ xs)

none_in : {A : Type 0} (t : A → Bool) (l : List A) (x : A) → the_first t l ≡ none → In x l → t x ≡ false
unfolding the_first
none_in t (y ∷ l) x e here = (none_first (t y) y (the_first t l) e).0
none_in t (y ∷ l) x e (there i) = none_in t l x (none_first (t y) y (the_first t l) e).1 i
none_in {A = A} t [] x e x4 = elim x4 [ ]

-- Where no two pass each other's test, one that passes is found.
found_in : {A : Type 0} (m : A → A → Bool) → ((a b c : A) → m a b ≡ true → m a c ≡ true → m b c ≡ true) → (a b : A) (l : List A) → Apart m l → In b l → m a b ≡ true → the_first (m a) l ≡ some b
unfolding the_first
found_in m third a b (c ∷ l) p here e = ap (λ (t : Bool). pick t (some c) (the_first (m a) l)) e
found_in m third a b (c ∷ l) p (there i) e =
    ap (λ (t : Bool). pick t (some c) (the_first (m a) l)) (not_true (m a c) (λ q. false≢true (sym (none_in (m c) l b p.0 i) ∙ third a c b q e)))
    ∙ found_in m third a b l p.1 i e
found_in {A = A} m third a b [] p x3 e = elim x3 [ ]

each_none : {A B : Type 0} (F : A → List B) (l : List A) → ((a : A) → In a l → F a ≡ []) → each_of F l ≡ []
unfolding each_of
each_none F [] h = refl
each_none F (a ∷ l) h = ap₂ ◌++◌ (h a here) (each_none F l (λ b i. h b (there i)))

-- Two lists of which each has, at each place, what is alike.
pub data Alike {A : Type 0} (R : A → A → Type 0) : List A → List A → Type 0 where
  none_alike : Alike R [] []
  more_alike : {a b : A} {l m : List A} → R a b → Alike R l m → Alike R (a ∷ l) (b ∷ m)

record Partner {A : Type 0} (R : A → A → Type 0) (a : A) (m : List A) : Type 0 where
  it : A
  is : In it m
  alike : R a it

partner : {A : Type 0} {R : A → A → Type 0} {a : A} {l m : List A} → In a l → Alike R l m → Partner R a m
partner here (more_alike r t) = record { it = _; is = here; alike = r }
partner (there i) (more_alike r t) = let p = partner i t in record { it = p.it; is = there p.is; alike = p.alike }

alike_back : {A : Type 0} {R S : A → A → Type 0} → ((a b : A) → R a b → S b a) → {l m : List A} → Alike R l m → Alike S m l
alike_back f none_alike = none_alike
alike_back f (more_alike r t) = more_alike (f _ _ r) (alike_back f t)

-- Values of one path that count as the same, and objects with such values.
pub record SameValue (v w : Placed) : Type 0 where
  pub path : same_path v.path w.path ≡ true
  pub value : same_value v.taken w.taken ≡ true

pub record SameContent (x y : Content) : Type 0 where
  pub object : same_object x y ≡ true
  pub values : Alike SameValue x.values y.values

abbrev paired : Placed → Placed → Bool
paired v w = same_path v.path w.path

third_path : (a b c : Placed) → paired a b ≡ true → paired a c ≡ true → paired b c ≡ true
third_path a b c e q = path_third a.path b.path c.path e q

-- The same list, tested from the other side.
first_turned : {A : Type 0} (m : A → A → Bool) → ((a b : A) → m a b ≡ m b a) → (y : A) (l : List A) → the_first (λ x. m x y) l ≡ the_first (m y) l
unfolding the_first
first_turned m f y [] = refl
first_turned m f y (x ∷ l) = ap₂ (λ (b : Bool) (r : Option _). pick b (some x) r) (f x y) (first_turned m f y l)

module _ (x y : Content) (a : PathsApart x) (b : PathsApart y) (h : SameContent x y) where
  first_none : (v : Placed) → In v x.values → of_first_value x y v ≡ []
  unfolding of_first_value met choose PathsApart
  first_none v i =
      let p = partner i h.values in
      ap (met x y v) (found_in paired third_path v p.it y.values b p.is p.alike.path)
      ∙ ap (λ (t : Bool). choose t (λ _. []) (λ _. values_differ x.object y.object v p.it ∷ [])) p.alike.value

  second_none : (w : Placed) → In w y.values → of_second_value x y w ≡ []
  unfolding of_second_value choose is_there PathsApart
  second_none w i =
      let p = partner i (alike_back {S = λ s t. paired s t ≡ true} (λ s t r. path_flip t.path s.path ∙ r.path) h.values) in
      ap (λ (o : Option Placed). choose (is_there o) (λ _. []) (λ _. value_in_second x.object y.object w ∷ []))
      (first_turned paired (λ s t. path_flip s.path t.path) w x.values ∙ found_in paired third_path w p.it x.values a p.is p.alike)

  pub pair_none : of_pair x y ≡ []
  unfolding of_pair
  pair_none = ap₂ ◌++◌ (each_none (of_first_value x y) x.values first_none) (each_none (of_second_value x y) y.values second_none)

all_in : {A : Type 0} (P : A → Type 0) (l : List A) (x : A) → All P l → In x l → P x
all_in P (y ∷ l) x p here = p.0
all_in P (y ∷ l) x p (there i) = all_in P l x p.1 i
all_in {A = A} P [] x p x4 = elim x4 [ ]

module _ (xs ys : List Content) (a : Sound xs) (b : Sound ys) (h : Alike SameContent xs ys) where
  object_none : (x : Content) → In x xs → of_first_object ys x ≡ []
  unfolding of_first_object matched ObjectsApart
  object_none x i =
      let p = partner i h in
      ap (matched x) (found_in same_object (keyed_third object_keyed) x p.it ys b.objects p.is p.alike.object)
      ∙ pair_none x p.it (all_in PathsApart xs x a.paths i) (all_in PathsApart ys p.it b.paths p.is) p.alike

  added_none : (y : Content) → In y ys → of_second_object xs y ≡ []
  unfolding of_second_object choose is_there ObjectsApart
  added_none y i =
      let p = partner i (alike_back {S = λ s t. same_object s t ≡ true} (λ s t r. keyed_flip object_keyed t s ∙ r.object) h) in
      ap (λ (o : Option Content). choose (is_there o) (λ _. []) (λ _. object_in_second y.object ∷ []))
      (first_turned same_object (keyed_flip object_keyed) y xs ∙ found_in same_object (keyed_third object_keyed) y p.it xs a.objects p.is p.alike)

  -- THE LAW.
  pub alike_none : of_contents xs ys ≡ []
  unfolding of_contents
  alike_none = ap₂ ◌++◌ (each_none (of_first_object ys) xs object_none) (each_none (of_second_object xs) ys added_none)

-- A text and itself ------------------------------------------------------------------------------------------------------------------------

value_self : (v : Placed) → SameValue v v
value_self v = record { path = path_same v.path; value = value_keyed.from_keys v.taken v.taken refl }

values_self : (l : List Placed) → Alike SameValue l l
values_self [] = none_alike
values_self (v ∷ l) = more_alike (value_self v) (values_self l)

contents_self : (l : List Content) → Alike SameContent l l
contents_self [] = none_alike
contents_self (x ∷ l) = more_alike (record { object = object_keyed.from_keys x x refl; values = values_self x.values }) (contents_self l)

pub self_none : (f : File) → ObjectsApart (contents f) → differences f f ≡ []
unfolding differences
self_none f a = alike_none (contents f) (contents f) (sound f a) (sound f a) (contents_self (contents f))
