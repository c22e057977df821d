-- "nor does object order" make a difference: two neighbouring objects of either text exchanged, the differences are as many, whatever is asked of
-- them. Assumes nothing.
use mathlib.Core.Path.{◌≡◌, refl, sym, ◌∙◌, ap, ap₂}
use mathlib.Core.List.{List, [], ◌∷◌, ◌++◌}
use mathlib.Core.Bool.{Bool, true, false}
use mathlib.Core.Option.{Option, some}
use Prim.Native.Nat.{ℕ, ◌+◌}
use native.Mathlib.Omega.{arith}
use Rattle.token.specs.Find.{bit, pick, is_there}
use Rattle.comparing.specs.Lists.{the_first, count}
use Rattle.comparing.specs.Contents.{Content, same_object}
use Rattle.comparing.specs.Differences.{Difference, object_in_first, object_in_second, of_pair, of_contents, swap}
use Rattle.comparing.proofs.Matching.{sum, found_or, told_of}
use Rattle.comparing.proofs.Swaps.{Sound, count_contents, contents_swapped}

sum_exchange : {A : Type 0} (f : A → ℕ) (as' : List A) (y z : A) (bs : List A) → sum f (as' ++ (y ∷ z ∷ bs)) ≡ sum f (as' ++ (z ∷ y ∷ bs))
unfolding sum
sum_exchange f [] y z bs = let e : (a b c : ℕ) → a + (b + c) ≡ b + (a + c) = λ a b c. omega arith in e (f y) (f z) (sum f bs)
sum_exchange f (x ∷ as') y z bs = ap (λ (n : ℕ). f x + n) (sum_exchange f as' y z bs)

there_exchange : {A : Type 0} (t : A → Bool) (as' : List A) (y z : A) (bs : List A) → is_there (the_first t (as' ++ (y ∷ z ∷ bs))) ≡ is_there (the_first t (as' ++ (z ∷ y ∷ bs)))
unfolding the_first is_there
there_exchange t [] y z bs = by_tests (t y) (t z) (the_first t bs)
  where
    by_tests : (b c : Bool) (r : Option _) → is_there (pick b (some y) (pick c (some z) r)) ≡ is_there (pick c (some z) (pick b (some y) r))
    by_tests true true r = refl
    by_tests true false r = refl
    by_tests false true r = refl
    by_tests false false r = refl
there_exchange t (x ∷ as') y z bs = by_test (t x) (the_first t (as' ++ (y ∷ z ∷ bs))) (the_first t (as' ++ (z ∷ y ∷ bs))) (there_exchange t as' y z bs)
  where
    by_test : (b : Bool) (r s : Option _) → is_there r ≡ is_there s → is_there (pick b (some x) r) ≡ is_there (pick b (some x) s)
    by_test true r s e = refl
    by_test false r s e = e

told_exchange : {A B : Type 0} (m : A → B → Bool) (a : A → ℕ) (b : B → ℕ) (h : A → B → ℕ) (as' : List A) (y z : A) (bs : List A) (xs : List B)
    → told_of m a b h (as' ++ (y ∷ z ∷ bs)) xs ≡ told_of m a b h (as' ++ (z ∷ y ∷ bs)) xs
unfolding told_of
told_exchange m a b h as' y z bs xs =
    ap₂ ◌+◌ (sum_exchange (λ x. found_or (the_first (m x) xs) (a x) (h x)) as' y z bs)
    (λ i. sum (λ x. pick (there_exchange (λ w. m w x) as' y z bs i) 0 (b x)) xs)

-- Objects of the first text exchanged.
pub first_order : (p : Difference → Bool) (as' : List Content) (y z : Content) (bs xs : List Content) → count p (of_contents (as' ++ (y ∷ z ∷ bs)) xs) ≡ count p (of_contents (as' ++ (z ∷ y ∷ bs)) xs)
first_order p as' y z bs xs =
    count_contents p (as' ++ (y ∷ z ∷ bs)) xs
    ∙ told_exchange same_object (λ x. bit (p (object_in_first x.object))) (λ x. bit (p (object_in_second x.object))) (λ x w. count p (of_pair x w)) as' y z bs xs
    ∙ sym (count_contents p (as' ++ (z ∷ y ∷ bs)) xs)

-- Objects of the second text exchanged.
pub second_order : (p : Difference → Bool) (as' : List Content) (y z : Content) (bs xs : List Content) → Sound xs → Sound (as' ++ (y ∷ z ∷ bs)) → Sound (as' ++ (z ∷ y ∷ bs))
    → count p (of_contents xs (as' ++ (y ∷ z ∷ bs))) ≡ count p (of_contents xs (as' ++ (z ∷ y ∷ bs)))
second_order p as' y z bs xs s a b =
    contents_swapped p (as' ++ (y ∷ z ∷ bs)) xs a s ∙ first_order (λ d. p (swap d)) as' y z bs xs ∙ sym (contents_swapped p (as' ++ (z ∷ y ∷ bs)) xs b s)
