-- Two lists whose entries match at most one of the other: what is told of them is the same from both sides. Assumes nothing.
use mathlib.Core.Path.{◌≡◌, refl, sym, ◌∙◌, ap, ap₂}
use mathlib.Core.List.{List, [], ◌∷◌, ◌++◌}
use mathlib.Core.Bool.{Bool, true, false, false≢true}
use mathlib.Core.Option.{Option, none, some}
use Prim.Native.Nat.{ℕ, ◌+◌}
use native.Mathlib.Omega.{arith}
use Rattle.token.specs.Find.{bit, pick, is_there}
use Rattle.comparing.specs.Lists.{the_first, each_of, count}

some≢none : {A : Type 0} {x : A} → some x ≡ none → ⊥
unfolding is_there
some≢none e = false≢true (sym (ap is_there e))

-- Sums -------------------------------------------------------------------------------------------------------------------------------------

unfoldable pub sum : {A : Type 0} → (A → ℕ) → List A → ℕ
sum f [] = 0
sum f (x ∷ xs) = f x + sum f xs

middle : (a b c d : ℕ) → (a + b) + (c + d) ≡ (a + c) + (b + d)
middle a b c d = omega arith

sum_add : {A : Type 0} (f g : A → ℕ) (l : List A) → sum (λ x. f x + g x) l ≡ sum f l + sum g l
unfolding sum
sum_add f g [] = refl
sum_add f g (x ∷ l) = ap (λ (n : ℕ). (f x + g x) + n) (sum_add f g l) ∙ middle (f x) (g x) (sum f l) (sum g l)

sum_zero : {A : Type 0} (l : List A) → sum (λ (x : A). 0) l ≡ 0
unfolding sum
sum_zero [] = refl
sum_zero (x ∷ l) = let e = sum_zero l in omega (arith, e)

-- In either order.
sum_sum : {A B : Type 0} (k : A → B → ℕ) (xs : List A) (ys : List B) → sum (λ x. sum (k x) ys) xs ≡ sum (λ y. sum (λ x. k x y) xs) ys
unfolding sum
sum_sum k [] ys = sym (sum_zero ys)
sum_sum k (x ∷ xs) ys = ap (λ (n : ℕ). sum (k x) ys + n) (sum_sum k xs ys) ∙ sym (sum_add (k x) (λ y. sum (λ x. k x y) xs) ys)

pub count_append : {A : Type 0} (p : A → Bool) (l m : List A) → count p (l ++ m) ≡ count p l + count p m
unfolding count
count_append p [] m = let e : (n : ℕ) → n ≡ 0 + n = λ n. omega arith in e (count p m)
count_append p (x ∷ l) m =
    let e : (a b c : ℕ) → a + (b + c) ≡ (a + b) + c = λ a b c. omega arith in
    ap (λ (n : ℕ). bit (p x) + n) (count_append p l m) ∙ e (bit (p x)) (count p l) (count p m)

pub count_each : {A B : Type 0} (p : B → Bool) (f : A → List B) (l : List A) → count p (each_of f l) ≡ sum (λ x. count p (f x)) l
unfolding count each_of sum
count_each p f [] = refl
count_each p f (x ∷ l) = count_append p (f x) (each_of f l) ∙ ap (λ (n : ℕ). count p (f x) + n) (count_each p f l)

-- Matches ----------------------------------------------------------------------------------------------------------------------------------

-- At most one of a list passes a test.
abbrev pub One : {A : Type 0} → (A → Bool) → List A → Type 0
One t [] = Unit {0}
One t (x ∷ xs) = (t x ≡ true → the_first t xs ≡ none) × One t xs

-- What is told of one that is found, or of none.
unfoldable pub found_or : {B : Type 0} → Option B → ℕ → (B → ℕ) → ℕ
found_or none a h = a
found_or (some y) a h = h y

none_step : {B : Type 0} (b : Bool) (y : B) (r : Option B) (n s : ℕ) → (r ≡ none → s ≡ 0) → pick b (some y) r ≡ none → pick b n 0 + s ≡ 0
none_step true y r n s k e = absurd (some≢none e)
none_step false y r n s k e = let z = k e in omega (arith, z)

none_sum : {B : Type 0} (t : B → Bool) (h : B → ℕ) (ys : List B) → the_first t ys ≡ none → sum (λ y. pick (t y) (h y) 0) ys ≡ 0
unfolding sum the_first
none_sum t h [] e = refl
none_sum t h (y ∷ ys) e = none_step (t y) y (the_first t ys) (h y) (sum (λ z. pick (t z) (h z) 0) ys) (none_sum t h ys) e

found_step : {B : Type 0} (b : Bool) (y : B) (r : Option B) (a : ℕ) (h : B → ℕ) (s : ℕ) → (b ≡ true → s ≡ 0) → found_or r a h ≡ pick (is_there r) 0 a + s
    → found_or (pick b (some y) r) a h ≡ pick (is_there (pick b (some y) r)) 0 a + (pick b (h y) 0 + s)
unfolding found_or is_there
found_step true y r a h s k e = let z = k refl in omega (arith, z)
found_step false y r a h s k e = omega (arith, e)

-- One that is found is the only one that passes.
found_sum : {B : Type 0} (t : B → Bool) (a : ℕ) (h : B → ℕ) (ys : List B) → One t ys
    → found_or (the_first t ys) a h ≡ pick (is_there (the_first t ys)) 0 a + sum (λ y. pick (t y) (h y) 0) ys
unfolding sum the_first found_or is_there
found_sum t a h [] o = let e : (n : ℕ) → n ≡ n + 0 = λ n. omega arith in e a
found_sum t a h (y ∷ ys) o =
    found_step (t y) y (the_first t ys) a h (sum (λ z. pick (t z) (h z) 0) ys) (λ q. none_sum t h ys (o.0 q)) (found_sum t a h ys o.1)

-- Both sides -------------------------------------------------------------------------------------------------------------------------------

-- What is told of xs and ys: a of one of xs without a match, b of one of ys without, h of a pair.
unfoldable pub told_of : {A B : Type 0} → (A → B → Bool) → (A → ℕ) → (B → ℕ) → (A → B → ℕ) → List A → List B → ℕ
told_of m a b h xs ys =
    sum (λ x. found_or (the_first (m x) ys) (a x) (h x)) xs + sum (λ y. pick (is_there (the_first (λ x. m x y) xs)) 0 (b y)) ys

sum_same : {A : Type 0} (f g : A → ℕ) (l : List A) → ((x : A) → f x ≡ g x) → sum f l ≡ sum g l
sum_same f g l e = λ i. sum (λ x. e x i) l

-- What is told of those without a match in either list, and of all pairs.
apart_sums : {A B : Type 0} (m : A → B → Bool) (a : A → ℕ) (b : B → ℕ) (h : A → B → ℕ) (xs : List A) (ys : List B) → ((x : A) → One (m x) ys)
    → told_of m a b h xs ys
    ≡ (sum (λ x. pick (is_there (the_first (m x) ys)) 0 (a x)) xs + sum (λ x. sum (λ y. pick (m x y) (h x y) 0) ys) xs)
    + sum (λ y. pick (is_there (the_first (λ x. m x y) xs)) 0 (b y)) ys
unfolding told_of
apart_sums m a b h xs ys o =
    ap (λ (n : ℕ). n + sum (λ y. pick (is_there (the_first (λ x. m x y) xs)) 0 (b y)) ys)
    (sum_same (λ x. found_or (the_first (m x) ys) (a x) (h x)) (λ x. pick (is_there (the_first (m x) ys)) 0 (a x) + sum (λ y. pick (m x y) (h x y) 0) ys) xs
    (λ x. found_sum (m x) (a x) (h x) ys (o x))
    ∙ sum_add (λ x. pick (is_there (the_first (m x) ys)) 0 (a x)) (λ x. sum (λ y. pick (m x y) (h x y) 0) ys) xs)

exchange : (a b c d : ℕ) → b ≡ d → (a + b) + c ≡ (c + d) + a
exchange a b c d e = omega (arith, e)

pub both_sides : {A B : Type 0} (m : A → B → Bool) (a : A → ℕ) (b : B → ℕ) (h : A → B → ℕ) (xs : List A) (ys : List B)
    → ((x : A) → One (m x) ys) → ((y : B) → One (λ x. m x y) xs)
    → told_of m a b h xs ys ≡ told_of (λ y x. m x y) b a (λ y x. h x y) ys xs
both_sides m a b h xs ys o p =
    apart_sums m a b h xs ys o
    ∙ exchange (sum (λ x. pick (is_there (the_first (m x) ys)) 0 (a x)) xs) (sum (λ x. sum (λ y. pick (m x y) (h x y) 0) ys) xs)
    (sum (λ y. pick (is_there (the_first (λ x. m x y) xs)) 0 (b y)) ys) (sum (λ y. sum (λ x. pick (m x y) (h x y) 0) xs) ys)
    (sum_sum (λ x y. pick (m x y) (h x y) 0) xs ys)
    ∙ sym (apart_sums (λ y x. m x y) b a (λ y x. h x y) ys xs p)

-- Lists apart ------------------------------------------------------------------------------------------------------------------------------

-- No two of a list are alike.
abbrev pub Apart : {A : Type 0} → (A → A → Bool) → List A → Type 0
Apart r [] = Unit {0}
Apart r (x ∷ xs) = (the_first (r x) xs ≡ none) × Apart r xs

pub none_first : {A : Type 0} (b : Bool) (x : A) (r : Option A) → pick b (some x) r ≡ none → (b ≡ false) × (r ≡ none)
none_first true x r e = absurd (some≢none e)
none_first false x r e = (refl, e)

pub first_none : {A : Type 0} (b : Bool) (x : A) (r : Option A) → b ≡ false → r ≡ none → pick b (some x) r ≡ none
first_none b x r e q = ap (λ (c : Bool). pick c (some x) r) e ∙ q

pub not_true : (b : Bool) → (b ≡ true → ⊥) → b ≡ false
not_true true f = absurd (f refl)
not_true false f = refl

-- None passes a test that is narrower than one that none passes.
pub none_narrow : {A : Type 0} (t u : A → Bool) (xs : List A) → ((z : A) → t z ≡ true → u z ≡ true) → the_first u xs ≡ none → the_first t xs ≡ none
unfolding the_first
none_narrow t u [] k e = refl
none_narrow t u (x ∷ xs) k e =
    let n = none_first (u x) x (the_first u xs) e in
    first_none (t x) x (the_first t xs) (not_true (t x) (λ q. false≢true (sym n.0 ∙ k x q))) (none_narrow t u xs k n.1)

-- A relation by which two that are related to a third are related.
pub one_of_apart : {A B : Type 0} (r : A → A → Bool) (m : B → A → Bool) (x : B) (ys : List A) → ((y z : A) → m x y ≡ true → m x z ≡ true → r y z ≡ true) → Apart r ys → One (m x) ys
one_of_apart r m x [] k a = tt
one_of_apart r m x (y ∷ ys) k a = ((λ q. none_narrow (m x) (r y) ys (λ z p. k y z q p) a.0), one_of_apart r m x ys k a.1)

pub none_append : {A : Type 0} (t : A → Bool) (xs ys : List A) → the_first t xs ≡ none → the_first t ys ≡ none → the_first t (xs ++ ys) ≡ none
unfolding the_first
none_append t [] ys e q = q
none_append t (x ∷ xs) ys e q = let n = none_first (t x) x (the_first t xs) e in first_none (t x) x (the_first t (xs ++ ys)) n.0 (none_append t xs ys n.1 q)

-- Within lists ------------------------------------------------------------------------------------------------------------------------------

-- All of a list have a property.
abbrev pub All : {A : Type 0} → (A → Type 0) → List A → Type 0
All P [] = Unit {0}
All P (x ∷ xs) = P x × All P xs

found_within : {B : Type 0} (P : B → Type 0) (t : B → Bool) (a : ℕ) (h k : B → ℕ) (ys : List B) → All P ys → ((y : B) → P y → h y ≡ k y)
    → found_or (the_first t ys) a h ≡ found_or (the_first t ys) a k
unfolding the_first found_or
found_within P t a h k [] p e = refl
found_within P t a h k (y ∷ ys) p e = by_cases (t y) (found_within P t a h k ys p.1 e)
  where
    by_cases : (b : Bool) → found_or (the_first t ys) a h ≡ found_or (the_first t ys) a k
        → found_or (pick b (some y) (the_first t ys)) a h ≡ found_or (pick b (some y) (the_first t ys)) a k
    by_cases true r = e y p.0
    by_cases false r = r

-- What is told depends on pairs of the lists only.
pub told_within : {A B : Type 0} (P : A → Type 0) (Q : B → Type 0) (m : A → B → Bool) (a : A → ℕ) (b : B → ℕ) (h k : A → B → ℕ) (xs : List A) (ys : List B) → All P xs → All Q ys
    → ((x : A) (y : B) → P x → Q y → h x y ≡ k x y) → told_of m a b h xs ys ≡ told_of m a b k xs ys
unfolding told_of sum
told_within P Q m a b h k xs ys p q e = ap (λ (n : ℕ). n + sum (λ y. pick (is_there (the_first (λ x. m x y) xs)) 0 (b y)) ys) (sums xs p)
  where
    sums : (zs : List _) → All P zs → sum (λ x. found_or (the_first (m x) ys) (a x) (h x)) zs ≡ sum (λ x. found_or (the_first (m x) ys) (a x) (k x)) zs
    sums [] r = refl
    sums (z ∷ zs) r = ap₂ ◌+◌ (found_within Q (m z) (a z) (h z) (k z) ys q (λ y s. e z y r.0 s)) (sums zs r.1)
