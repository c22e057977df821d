-- The differences of a pair of objects, by the partners of the second's values. Assumes nothing.
use mathlib.Core.Path.{◌≡◌, refl, sym, ◌∙◌, ap, ap₂, subst}
use mathlib.Core.List.{List, [], ◌∷◌, ◌++◌}
use mathlib.Core.Bool.{Bool, true, false, false≢true}
use mathlib.Core.Option.{Option, none, some}
use Prim.Native.Nat.{ℕ, zero, suc, ◌+◌, ◌<◌}
use native.Mathlib.Omega.{arith}
use native.Mathlib.Nat.{not-suc-le-zero, le_of_suc-le-suc}
use lib.Dec.{eqb}
use lib.ListN.{length, get_or}
use borrow.Author.Tests.{eq-eqb, ne_eqb, eqb-true}
use Rattle.token.specs.Find.{pick, is_there}
use Rattle.meaning.specs.Words.{choose}
use Rattle.comparing.specs.Lists.{the_first, each_of}
use Rattle.comparing.specs.Contents.{Path, same_path, Placed, Content}
use Rattle.comparing.specs.Differences.{value_in_second, met, of_first_value, of_second_value, of_pair}
use Rattle.comparing.specs.Partners.{place_from}
use Rattle.comparing.proofs.Steps.{path_at, value_at, first_part, second_part}
use Rattle.comparing.proofs.Alikes.{same_truth}
use Rattle.comparing.proofs.Matching.{not_true}

-- The partners ps of ws among vs are those with the same path.
pub record Matched (vs ws : List Placed) (ps : List ℕ) : Type 0 where
  pub long : length ps ≡ length ws
  pub inside : (k i : ℕ) → k < length ws → get_or ps k 0 ≡ suc i → i < length vs
  pub same : (k i : ℕ) → k < length ws → get_or ps k 0 ≡ suc i → same_path (path_at vs i) (path_at ws k) ≡ true
  pub only : (k i : ℕ) → k < length ws → i < length vs → same_path (path_at vs i) (path_at ws k) ≡ true → get_or ps k 0 ≡ suc i

zero_not_suc : (n : ℕ) → 0 ≡ suc n → ⊥
zero_not_suc n e = omega arith

suc_same : (m n : ℕ) → suc m ≡ suc n → m ≡ n
suc_same m n e = omega arith

up : (k n : ℕ) → k < n → suc k < suc n
up k n h = omega arith

positive : (n : ℕ) → 0 < suc n
positive n = omega arith

-- Searching from the next place gives one more, where something is found.
next_place : (j : ℕ) (ps : List ℕ) (a n : ℕ) → place_from j ps a ≡ suc n → place_from (suc j) ps a ≡ suc (suc n)
unfolding place_from
next_place j [] a n e = absurd (zero_not_suc n e)
next_place j (x ∷ ps) a n e = by_test (eqb x a) e (λ q. next_place (suc j) ps a n q)
  where
    by_test : (b : Bool) → pick b (suc j) (place_from (suc j) ps a) ≡ suc n → (place_from (suc j) ps a ≡ suc n → place_from (suc (suc j)) ps a ≡ suc (suc n)) → pick b (suc (suc j)) (place_from (suc (suc j)) ps a) ≡ suc (suc n)
    by_test true q f = ap suc q
    by_test false q f = f q

none_place : (j : ℕ) (ps : List ℕ) (a : ℕ) → place_from j ps a ≡ 0 → place_from (suc j) ps a ≡ 0
unfolding place_from
none_place j [] a e = refl
none_place j (x ∷ ps) a e = by_test (eqb x a) e (λ q. none_place (suc j) ps a q)
  where
    by_test : (b : Bool) → pick b (suc j) (place_from (suc j) ps a) ≡ 0 → (place_from (suc j) ps a ≡ 0 → place_from (suc (suc j)) ps a ≡ 0) → pick b (suc (suc j)) (place_from (suc (suc j)) ps a) ≡ 0
    by_test true q f = absurd (zero_not_suc j (sym q))
    by_test false q f = f q

-- The value behind one more.
value_next : (w : Placed) (ws : List Placed) (ps : List ℕ) (a : ℕ) → value_at (w ∷ ws) (place_from 1 ps a) ≡ value_at ws (place_from 0 ps a)
unfolding value_at
value_next w ws ps a = by_number (place_from 0 ps a) refl
  where
    by_number : (m : ℕ) → place_from 0 ps a ≡ m → value_at (w ∷ ws) (place_from 1 ps a) ≡ value_at ws (place_from 0 ps a)
    by_number zero e = ap (value_at (w ∷ ws)) (none_place 0 ps a e) ∙ none-value w ws ∙ ap (value_at ws) (sym e)
      where
        none-value : (w : Placed) (ws : List Placed) → value_at (w ∷ ws) 0 ≡ value_at ws 0
        none-value w ws = refl
    by_number (suc n) e = ap (value_at (w ∷ ws)) (next_place 0 ps a n e) ∙ ap (value_at ws) (sym e)

-- A test that holds exactly where the number stands.
found_by : (t : Placed → Bool) (ws : List Placed) (ps : List ℕ) (a : ℕ) → length ps ≡ length ws → ((k : ℕ) → k < length ws → (w : Placed) → value_at ws (suc k) ≡ some w → t w ≡ eqb (get_or ps k 0) a)
    → the_first t ws ≡ value_at ws (place_from 0 ps a)
unfolding the_first place_from value_at
found_by t [] [] a l f = refl
found_by t [] (p ∷ ps) a l f = absurd (zero_not_suc (length ps) (sym l))
found_by t (w ∷ ws) [] a l f = absurd (zero_not_suc (length ws) l)
found_by t (w ∷ ws) (p ∷ ps) a l f =
    ap₂ (λ (b : Bool) (r : Option Placed). pick b (some w) r) (f 0 (positive (length ws)) w refl)
    (found_by t ws ps a (suc_same (length ps) (length ws) l) (λ k h v e. f (suc k) (up k (length ws) h) v e) ∙ sym (value_next w ws ps a))
    ∙ combined (eqb p a)
  where
    combined : (b : Bool) → pick b (some w) (value_at (w ∷ ws) (place_from 1 ps a)) ≡ value_at (w ∷ ws) (pick b 1 (place_from 1 ps a))
    combined true = refl
    combined false = refl

path_of_value : (ws : List Placed) (k : ℕ) (w : Placed) → value_at ws (suc k) ≡ some w → w.path ≡ path_at ws k
unfolding value_at path_at
path_of_value [] k w e = absurd (false≢true (ap there e))
  where
    there : Option Placed → Bool
    there none = false
    there (some v) = true
path_of_value (v ∷ ws) zero w e = ap the_path (sym e)
  where
    the_path : Option Placed → Path
    the_path none = []
    the_path (some u) = u.path
path_of_value (v ∷ ws) (suc k) w e = path_of_value ws k w e

-- The test of a path and the number of a partner say the same.
test_same : (vs ws : List Placed) (ps : List ℕ) → Matched vs ws ps → (i k : ℕ) → i < length vs → k < length ws → same_path (path_at vs i) (path_at ws k) ≡ eqb (get_or ps k 0) (suc i)
test_same vs ws ps m i k h g =
    same_truth (same_path (path_at vs i) (path_at ws k)) (eqb (get_or ps k 0) (suc i)) (λ e. eq-eqb (get_or ps k 0) (suc i) (m.only k i g h e)) (λ e. m.same k i g (eqb-true (get_or ps k 0) (suc i) e))

pub first_found : (vs ws : List Placed) (ps : List ℕ) → Matched vs ws ps → (i : ℕ) → i < length vs → the_first (λ w. same_path (path_at vs i) w.path) ws ≡ value_at ws (place_from 0 ps (suc i))
first_found vs ws ps m i h =
    found_by (λ w. same_path (path_at vs i) w.path) ws ps (suc i) m.long (λ k g w e. ap (same_path (path_at vs i)) (path_of_value ws k w e) ∙ test_same vs ws ps m i k h g)

-- The first object's values ------------------------------------------------------------------------------------------------------------------------

first_parts : (x y : Content) (ps : List ℕ) → Matched x.values y.values ps → (j : ℕ) (us : List Placed) → ((i : ℕ) → i < length us → (j + i < length x.values) × (path_at x.values (j + i) ≡ path_at us i))
    → each_of (of_first_value x y) us ≡ first_part x y ps j us
unfolding each_of first_part of_first_value path_at
first_parts x y ps m j [] f = refl
first_parts x y ps m j (u ∷ us) f =
    let z : j + 0 ≡ j = omega arith in
    let here = f 0 (positive (length us)) in
    let inside : j < length x.values = subst (λ (n : ℕ). n < length x.values) z here.0 in
    let path : path_at x.values j ≡ u.path = ap (path_at x.values) (sym z) ∙ here.1 in
    ap₂ ◌++◌
    (ap (met x y u) (ap (λ (q : Path). the_first (λ w. same_path q w.path) y.values) (sym path) ∙ first_found x.values y.values ps m j inside))
    (first_parts x y ps m (suc j) us (λ i h.
    let s : j + suc i ≡ suc j + i = omega arith in
    let g = f (suc i) (up i (length us) h) in
    (subst (λ (n : ℕ). n < length x.values) s g.0, ap (path_at x.values) (sym s) ∙ g.1)))

-- The second's ---------------------------------------------------------------------------------------------------------------------------------------

none_there : (q : Path) (vs : List Placed) → ((i : ℕ) → i < length vs → same_path (path_at vs i) q ≡ false) → is_there (the_first (λ v. same_path v.path q) vs) ≡ false
unfolding the_first is_there path_at
none_there q [] f = refl
none_there q (v ∷ vs) f = by_test (same_path v.path q) (f 0 (positive (length vs))) (none_there q vs (λ i h. f (suc i) (up i (length vs) h)))
  where
    by_test : (b : Bool) → b ≡ false → is_there (the_first (λ v. same_path v.path q) vs) ≡ false → is_there (pick b (some v) (the_first (λ v. same_path v.path q) vs)) ≡ false
    by_test b e r = ap (λ (c : Bool). is_there (pick c (some v) (the_first (λ v. same_path v.path q) vs))) e ∙ r

one_there : (q : Path) (vs : List Placed) (i : ℕ) → i < length vs → same_path (path_at vs i) q ≡ true → is_there (the_first (λ v. same_path v.path q) vs) ≡ true
unfolding the_first is_there path_at
one_there q [] i h e = absurd (not-suc-le-zero h)
one_there q (v ∷ vs) zero h e = ap (λ (c : Bool). is_there (pick c (some v) (the_first (λ v. same_path v.path q) vs))) e
one_there q (v ∷ vs) (suc i) h e = by_test (same_path v.path q) (one_there q vs i (le_of_suc-le-suc h) e)
  where
    by_test : (b : Bool) → is_there (the_first (λ v. same_path v.path q) vs) ≡ true → is_there (pick b (some v) (the_first (λ v. same_path v.path q) vs)) ≡ true
    by_test true r = refl
    by_test false r = r

-- Whether a value of the second has one of the first with its path.
second_one : (x y : Content) (w : Placed) (p : ℕ) → (p ≡ 0 → is_there (the_first (λ v. same_path v.path w.path) x.values) ≡ false) → ((i : ℕ) → p ≡ suc i → is_there (the_first (λ v. same_path v.path w.path) x.values) ≡ true)
    → of_second_value x y w ≡ choose (eqb p 0) (λ _. value_in_second x.object y.object w ∷ []) (λ _. [])
unfolding of_second_value choose
second_one x y w zero f g = ap (λ (b : Bool). choose b (λ _. []) (λ _. value_in_second x.object y.object w ∷ [])) (f refl)
second_one x y w (suc i) f g =
    ap (λ (b : Bool). choose b (λ _. []) (λ _. value_in_second x.object y.object w ∷ [])) (g i refl)
    ∙ ap (λ (b : Bool). choose b (λ _. value_in_second x.object y.object w ∷ []) (λ _. [])) (sym (ne_eqb (suc i) 0 (λ e. zero_not_suc i (sym e))))

second_parts : (x y : Content) (qs : List ℕ) (us : List Placed) → length qs ≡ length us
    → ((k : ℕ) → k < length us → get_or qs k 0 ≡ 0 → is_there (the_first (λ v. same_path v.path (path_at us k)) x.values) ≡ false)
    → ((k i : ℕ) → k < length us → get_or qs k 0 ≡ suc i → is_there (the_first (λ v. same_path v.path (path_at us k)) x.values) ≡ true)
    → each_of (of_second_value x y) us ≡ second_part x y qs us
unfolding each_of second_part path_at
second_parts x y [] [] l f g = refl
second_parts x y [] (u ∷ us) l f g = absurd (zero_not_suc (length us) l)
second_parts x y (q ∷ qs) [] l f g = absurd (zero_not_suc (length qs) (sym l))
second_parts x y (q ∷ qs) (u ∷ us) l f g =
    ap₂ ◌++◌ (second_one x y u q (λ e. f 0 (positive (length us)) e) (λ i e. g 0 i (positive (length us)) e))
    (second_parts x y qs us (suc_same (length qs) (length us) l) (λ k h e. f (suc k) (up k (length us) h) e) (λ k i h e. g (suc k) i (up k (length us) h) e))

-- THE THEOREM: the differences of a pair, by the partners of the second's values.
pub pair_by_partners : (x y : Content) (ps : List ℕ) → Matched x.values y.values ps → of_pair x y ≡ first_part x y ps 0 x.values ++ second_part x y ps y.values
unfolding of_pair
pair_by_partners x y ps m =
    let z : (i : ℕ) → 0 + i ≡ i = λ i. omega arith in
    ap₂ ◌++◌
    (first_parts x y ps m 0 x.values (λ i h. (subst (λ (n : ℕ). n < length x.values) (sym (z i)) h, ap (path_at x.values) (z i))))
    (second_parts x y ps y.values m.long
    (λ k h e. none_there (path_at y.values k) x.values (λ i g. not_true (same_path (path_at x.values i) (path_at y.values k)) (λ s. zero_not_suc i (sym e ∙ m.only k i h g s))))
    (λ k i h e. one_there (path_at y.values k) x.values i (m.inside k i h e) (m.same k i h e)))
