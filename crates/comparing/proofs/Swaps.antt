-- "Swapping the texts swaps the sides in the whole set." Assumes nothing.
use mathlib.Core.Path.{◌≡◌, refl, sym, ◌∙◌, ap, ap₂}
use mathlib.Core.List.{List, [], ◌∷◌}
use mathlib.Core.Bool.{Bool, true, false}
use mathlib.Core.Option.{Option, none, some}
use Prim.Native.Nat.{ℕ, ◌+◌}
use native.Mathlib.Omega.{arith}
use lib.ListN.{length}
use Rattle.token.specs.Find.{bit, pick, is_there}
use Rattle.meaning.specs.Syntax.{Object, File}
use Rattle.meaning.specs.Words.{choose}
use Rattle.meaning.specs.Resolving.{object_values, how_many_values}
use Rattle.comparing.specs.Lists.{the_first, each_of, count}
use Rattle.comparing.specs.Contents.{Placed, same_path, same_value, Content, contents_from, contents, same_object}
use Rattle.comparing.specs.Differences.{Difference, object_in_first, object_in_second, value_in_first, value_in_second, values_differ, met, of_first_value, of_second_value, of_pair, matched, of_first_object, of_second_object, of_contents, differences, swap}
use Rattle.comparing.proofs.Matching.{sum, count_append, count_each, found_or, told_of, both_sides, One, Apart, one_of_apart, All, told_within}
use Rattle.comparing.proofs.Alikes.{keyed_flip, keyed_third, path_flip, path_third, value_keyed, object_keyed}
use Rattle.comparing.proofs.Paths.{paths_apart}

-- What is counted of a pair --------------------------------------------------------------------------------------------------------------------

alone : (n : ℕ) → n + 0 ≡ n
alone n = omega arith

count_met : (p : Difference → Bool) (x y : Content) (v : Placed) (o : Option Placed)
    → count p (met x y v o) ≡ found_or o (bit (p (value_in_first x.object y.object v))) (λ w. count p (met x y v (some w)))
unfolding met found_or count
count_met p x y v none = alone (bit (p (value_in_first x.object y.object v)))
count_met p x y v (some w) = refl

count_unless : {A : Type 0} (p : A → Bool) (b : Bool) (d : A) → count p (choose b (λ _. []) (λ _. d ∷ [])) ≡ pick b 0 (bit (p d))
unfolding count choose
count_unless p true d = refl
count_unless p false d = alone (bit (p d))

abbrev paired : Placed → Placed → Bool
paired v w = same_path v.path w.path

-- The differences inside a pair, as told from the first side.
abbrev pair_told : (p : Difference → Bool) (x y : Content) → ℕ
pair_told p x y =
    told_of paired (λ v. bit (p (value_in_first x.object y.object v))) (λ w. bit (p (value_in_second x.object y.object w)))
    (λ v w. count p (met x y v (some w))) x.values y.values

count_pair : (p : Difference → Bool) (x y : Content) → count p (of_pair x y) ≡ pair_told p x y
unfolding of_pair of_first_value of_second_value told_of
count_pair p x y =
    count_append p (each_of (of_first_value x y) x.values) (each_of (of_second_value x y) y.values)
    ∙ ap₂ ◌+◌
    (count_each p (of_first_value x y) x.values ∙ (λ i. sum (λ v. count_met p x y v (the_first (paired v) y.values) i) x.values))
    (count_each p (of_second_value x y) y.values
    ∙ (λ i. sum (λ w. count_unless p (is_there (the_first (λ v. paired v w) x.values)) (value_in_second x.object y.object w) i) y.values))

-- Two values that differ, told from the other side.
met_swapped : (p : Difference → Bool) (x y : Content) (v w : Placed) → count p (met y x w (some v)) ≡ count (λ d. p (swap d)) (met x y v (some w))
unfolding met swap
met_swapped p x y v w =
    count_unless p (same_value w.taken v.taken) (values_differ y.object x.object w v)
    ∙ ap (λ (b : Bool). pick b 0 (bit (p (values_differ y.object x.object w v)))) (keyed_flip value_keyed w.taken v.taken)
    ∙ sym (count_unless (λ d. p (swap d)) (same_value v.taken w.taken) (values_differ x.object y.object v w))

-- An object's values have paths of their own.
unfoldable pub PathsApart : Content → Type 0
PathsApart x = Apart paired x.values

one_path : (x : Content) → PathsApart x → (v : Placed) → One (paired v) x.values
unfolding PathsApart
one_path x a v = one_of_apart paired paired v x.values (λ w u e q. path_third v.path w.path u.path e q) a

one_path_back : (x : Content) → PathsApart x → (w : Placed) → One (λ v. paired v w) x.values
unfolding PathsApart
one_path_back x a w = one_of_apart paired (λ z v. paired v z) w x.values
    (λ v u e q. path_third w.path v.path u.path (path_flip w.path v.path ∙ e) (path_flip w.path u.path ∙ q)) a

pair_swapped : (p : Difference → Bool) (x y : Content) → PathsApart x → PathsApart y → count p (of_pair y x) ≡ count (λ d. p (swap d)) (of_pair x y)
unfolding swap
pair_swapped p x y a b =
    count_pair p y x
    ∙ both_sides paired (λ w. bit (p (value_in_first y.object x.object w))) (λ v. bit (p (value_in_second y.object x.object v)))
    (λ w v. count p (met y x w (some v))) y.values x.values (one_path x a) (one_path_back y b)
    ∙ (λ i. told_of (λ v w. path_flip w.path v.path i) (λ v. bit (p (value_in_second y.object x.object v))) (λ w. bit (p (value_in_first y.object x.object w)))
    (λ v w. met_swapped p x y v w i) x.values y.values)
    ∙ sym (count_pair (λ d. p (swap d)) x y)

-- Objects ------------------------------------------------------------------------------------------------------------------------------------

count_matched : (p : Difference → Bool) (x : Content) (o : Option Content)
    → count p (matched x o) ≡ found_or o (bit (p (object_in_first x.object))) (λ y. count p (of_pair x y))
unfolding matched found_or count
count_matched p x none = alone (bit (p (object_in_first x.object)))
count_matched p x (some y) = refl

pub count_contents : (p : Difference → Bool) (xs ys : List Content)
    → count p (of_contents xs ys)
    ≡ told_of same_object (λ x. bit (p (object_in_first x.object))) (λ y. bit (p (object_in_second y.object))) (λ x y. count p (of_pair x y)) xs ys
unfolding of_contents of_first_object of_second_object told_of
count_contents p xs ys =
    count_append p (each_of (of_first_object ys) xs) (each_of (of_second_object xs) ys)
    ∙ ap₂ ◌+◌
    (count_each p (of_first_object ys) xs ∙ (λ i. sum (λ x. count_matched p x (the_first (same_object x) ys) i) xs))
    (count_each p (of_second_object xs) ys ∙ (λ i. sum (λ y. count_unless p (is_there (the_first (λ x. same_object x y) xs)) (object_in_second y.object) i) ys))

unfoldable pub ObjectsApart : List Content → Type 0
ObjectsApart xs = Apart same_object xs

one_object : (xs : List Content) → ObjectsApart xs → (y : Content) → One (same_object y) xs
unfolding ObjectsApart
one_object xs a y = one_of_apart same_object same_object y xs (λ v w e q. keyed_third object_keyed y v w e q) a

one_object_back : (xs : List Content) → ObjectsApart xs → (y : Content) → One (λ x. same_object x y) xs
unfolding ObjectsApart
one_object_back xs a y = one_of_apart same_object (λ z x. same_object x z) y xs
    (λ v w e q. keyed_third object_keyed y v w (keyed_flip object_keyed y v ∙ e) (keyed_flip object_keyed y w ∙ q)) a

-- Contents of which no object stands twice and no path twice in an object.
pub record Sound (xs : List Content) : Type 0 where
  pub objects : ObjectsApart xs
  pub paths : All PathsApart xs

pub contents_swapped : (p : Difference → Bool) (xs ys : List Content) → Sound xs → Sound ys → count p (of_contents ys xs) ≡ count (λ d. p (swap d)) (of_contents xs ys)
unfolding swap
contents_swapped p xs ys a b =
    count_contents p ys xs
    ∙ both_sides same_object (λ y. bit (p (object_in_first y.object))) (λ x. bit (p (object_in_second x.object))) (λ y x. count p (of_pair y x)) ys xs
    (one_object xs a.objects) (one_object_back ys b.objects)
    ∙ (λ i. told_of (λ x y. keyed_flip object_keyed y x i) (λ x. bit (p (object_in_second x.object))) (λ y. bit (p (object_in_first y.object))) (λ x y. count p (of_pair y x)) xs ys)
    ∙ told_within PathsApart PathsApart same_object (λ x. bit (p (object_in_second x.object))) (λ y. bit (p (object_in_first y.object))) (λ x y. count p (of_pair y x))
    (λ x y. count (λ d. p (swap d)) (of_pair x y)) xs ys a.paths b.paths (λ x y c d. pair_swapped p x y c d)
    ∙ sym (count_contents (λ d. p (swap d)) xs ys)

-- Texts ----------------------------------------------------------------------------------------------------------------------------------------

all_paths : (f : File) (xs : List Object) (n : ℕ) → All PathsApart (contents_from f xs n)
unfolding contents_from PathsApart
all_paths f [] n = tt
all_paths f (x ∷ xs) n = (paths_apart (object_values f x) n [], all_paths f xs (n + how_many_values (object_values f x)))

pub sound : (f : File) → ObjectsApart (contents f) → Sound (contents f)
unfolding contents
sound f a = record { objects = a; paths = all_paths f f.objects 0 }

-- Whatever is asked of a difference, as many have it from one side as from the other with the sides swapped.
pub swapped : (f g : File) → ObjectsApart (contents f) → ObjectsApart (contents g) → (p : Difference → Bool)
    → count p (differences g f) ≡ count (λ d. p (swap d)) (differences f g)
unfolding differences
swapped f g a b p = contents_swapped p (contents f) (contents g) (sound f a) (sound g b)

count_all : {A : Type 0} (l : List A) → count (λ x. true) l ≡ length l
unfolding count bit
count_all [] = refl
count_all (x ∷ l) = let e = count_all l in omega (arith, e)

-- The total is the same.
pub total_swapped : (f g : File) → ObjectsApart (contents f) → ObjectsApart (contents g) → length (differences g f) ≡ length (differences f g)
total_swapped f g a b = sym (count_all (differences g f)) ∙ swapped f g a b (λ d. true) ∙ count_all (differences f g)
