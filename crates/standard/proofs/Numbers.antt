-- Values no wider, as sets of numbers: the test by bounds is right. Assumes nothing.
use mathlib.Core.Path.{◌≡◌, refl, sym, ◌∙◌, ap, subst}
use mathlib.Core.List.{List, [], ◌∷◌}
use mathlib.Core.Bool.{Bool, true, false, not, false≢true}
use mathlib.Core.Logic.{◌↔◌}
use Prim.Native.Nat.{ℕ, zero, suc, ◌+◌, ◌-◌, ◌≤◌, ◌<◌}
use native.Mathlib.Omega.{arith}
use lib.Dec.{leb}
use borrow.Author.Tests.{leb-true, leb-false}
use Rattle.token.specs.Find.{both, either}
use Rattle.grammar.specs.Grammar.{Integer, UINT32, INT32, UINT64, INT64}
use Rattle.meaning.specs.Syntax.{Num, Word, Bounds, no_bounds, from_to, one_of}
use Rattle.meaning.specs.Words.{num_at_most, equal, in_type, in_bounds, among_numbers, least_of, greatest_of, signed, width}
use Rattle.standard.specs.Asking.{less_by_one, next, followed, spans, all_in, within}
use Rattle.standard.specs.Conforming.{Proper}
use Rattle.standard.proofs.Truths.{both_left, both_right}

-- Ranges -------------------------------------------------------------------------------------------------------------------------------------

abbrev pub AllProper : List Word → Type 0
AllProper [] = Unit {0}
AllProper (t ∷ ts) = Proper t.number × AllProper ts

-- Numbers of a range as texts without a fault of 21 have them: in the type, the low not above the high.
abbrev pub AllOf : Integer → List Word → Type 0
AllOf i [] = Unit {0}
AllOf i (t ∷ ts) = Proper t.number × (in_type i t.number ≡ true) × AllOf i ts

abbrev pub Faultless : Integer → Bounds → Type 0
Faultless i no_bounds = Unit {0}
Faultless i (from_to a b) =
    Proper a.number × Proper b.number × (in_type i a.number ≡ true) × (in_type i b.number ≡ true) × (num_at_most a.number b.number ≡ true)
Faultless i (one_of ts) = AllOf i ts

abbrev pub ListedProper : Bounds → Type 0
ListedProper no_bounds = Unit {0}
ListedProper (from_to a b) = Unit {0}
ListedProper (one_of ts) = AllProper ts

-- The order ------------------------------------------------------------------------------------------------------------------------------------

abbrev num : Bool → ℕ → Num
num b n = record { negative = b; amount = n }

le_leb : (a b : ℕ) → a ≤ b → leb a b ≡ true
le_leb a b h = by (leb a b) refl
  where
    by : (c : Bool) → leb a b ≡ c → c ≡ true
    by true e = refl
    by false e = let x = leb-false a b e in absurd (omega arith)

-- By signs and amounts.
abbrev Le : Bool → ℕ → Bool → ℕ → Type 0
Le true m true n = n ≤ m
Le true m false n = Unit {0}
Le false m true n = ⊥
Le false m false n = m ≤ n

le_of : (p : Bool) (m : ℕ) (q : Bool) (n : ℕ) → num_at_most (num p m) (num q n) ≡ true → Le p m q n
unfolding num_at_most
le_of true m true n h = leb-true n m h
le_of true m false n h = tt
le_of false m true n h = absurd (false≢true h)
le_of false m false n h = leb-true m n h

of_le : (p : Bool) (m : ℕ) (q : Bool) (n : ℕ) → Le p m q n → num_at_most (num p m) (num q n) ≡ true
unfolding num_at_most
of_le true m true n h = le_leb n m h
of_le true m false n h = refl
of_le false m true n h = absurd h
of_le false m false n h = le_leb m n h

le_trans : (p : Bool) (m : ℕ) (q : Bool) (n : ℕ) (r : Bool) (k : ℕ) → Le p m q n → Le q n r k → Le p m r k
le_trans true m true n true k h i = omega arith
le_trans true m true n false k h i = tt
le_trans true m false n true k h i = absurd i
le_trans true m false n false k h i = tt
le_trans false m true n r k h i = absurd h
le_trans false m false n true k h i = absurd i
le_trans false m false n false k h i = omega arith

pub at_most_trans : (a b c : Num) → num_at_most a b ≡ true → num_at_most b c ≡ true → num_at_most a c ≡ true
at_most_trans a b c h i =
    of_le a.negative a.amount c.negative c.amount
    (le_trans a.negative a.amount b.negative b.amount c.negative c.amount
    (le_of a.negative a.amount b.negative b.amount h) (le_of b.negative b.amount c.negative c.amount i))

le_refl : (p : Bool) (m : ℕ) → Le p m p m
le_refl true m = omega arith
le_refl false m = omega arith

both_is : {a b : Bool} → a ≡ true → b ≡ true → both a b ≡ true
both_is {a} {b} e f = ap (λ c. both c b) e ∙ f

le_same : (p : Bool) (m : ℕ) (q : Bool) (n : ℕ) → Le p m q n → Le q n p m → num p m ≡ num q n
le_same true m true n h i = let e : m ≡ n = omega arith in ap (num true) e
le_same true m false n h i = absurd i
le_same false m true n h i = absurd h
le_same false m false n h i = let e : m ≡ n = omega arith in ap (num false) e

pub equal_same : (a b : Num) → equal a b ≡ true → a ≡ b
unfolding equal
equal_same a b h =
    le_same a.negative a.amount b.negative b.amount
    (le_of a.negative a.amount b.negative b.amount (both_left (num_at_most a b) (num_at_most b a) h))
    (le_of b.negative b.amount a.negative a.amount (both_right (num_at_most a b) (num_at_most b a) h))

-- Listed numbers -------------------------------------------------------------------------------------------------------------------------------

-- What holds of every number listed holds of one that is among them.
among_all : (P : Num → Type 0) (n : Num) (ts : List Word) → among_numbers n ts ≡ true → ((t : Word) → equal n t.number ≡ true → P n) → P n
unfolding among_numbers
among_all P n [] h f = absurd (false≢true h)
among_all P n (t ∷ ts) h f = by (equal n t.number) refl h (λ k. among_all P n ts k f)
  where
    by : (b : Bool) → equal n t.number ≡ b → either b (among_numbers n ts) ≡ true → (among_numbers n ts ≡ true → P n) → P n
    by true e g ih = f t e
    by false e g ih = ih g

all_listed : (b : Bounds) (n : Num) (ts : List Word) → all_in b ts ≡ true → among_numbers n ts ≡ true → in_bounds n b ≡ true
unfolding all_in among_numbers
all_listed b n [] h g = absurd (false≢true g)
all_listed b n (t ∷ ts) h g = by (equal n t.number) refl g (all_listed b n ts (both_right (in_bounds t.number b) (all_in b ts) h))
  where
    by : (c : Bool) → equal n t.number ≡ c → either c (among_numbers n ts) ≡ true → (among_numbers n ts ≡ true → in_bounds n b ≡ true) → in_bounds n b ≡ true
    by true e k ih = ap (λ m. in_bounds m b) (equal_same n t.number e) ∙ both_left (in_bounds t.number b) (all_in b ts) h
    by false e k ih = ih k

-- A number among some that is not below low and is below high is followed by one of all.
followed_by : (low high n : Num) (all ts : List Word) → followed low high all ts ≡ true → among_numbers n ts ≡ true → num_at_most low n ≡ true → num_at_most high n ≡ false
    → among_numbers (next n) all ≡ true
unfolding followed among_numbers
followed_by low high n all [] h g i j = absurd (false≢true g)
followed_by low high n all (t ∷ ts) h g i j =
    by (equal n t.number) refl g
    (λ k. followed_by low high n all ts (both_right (either (not (both (num_at_most low t.number) (not (num_at_most high t.number)))) (among_numbers (next t.number) all)) (followed low high all ts) h) k i j)
  where
    test : (a b c : Bool) → either (not (both a (not b))) c ≡ true → a ≡ true → b ≡ false → c ≡ true
    test true false c e u v = e
    test true true c e u v = absurd (false≢true (sym v))
    test false b c e u v = absurd (false≢true u)

    by : (c : Bool) → equal n t.number ≡ c → either c (among_numbers n ts) ≡ true → (among_numbers n ts ≡ true → among_numbers (next n) all ≡ true) → among_numbers (next n) all ≡ true
    by true e k ih =
        let q : n ≡ t.number = equal_same n t.number e in
        ap (λ m. among_numbers (next m) all) q
        ∙ test (num_at_most low t.number) (num_at_most high t.number) (among_numbers (next t.number) all)
        (both_left (either (not (both (num_at_most low t.number) (not (num_at_most high t.number)))) (among_numbers (next t.number) all)) (followed low high all ts) h)
        (sym (ap (num_at_most low) q) ∙ i) (sym (ap (num_at_most high) q) ∙ j)
    by false e k ih = ih k

-- From low upward ------------------------------------------------------------------------------------------------------------------------------

unfoldable pub up : ℕ → Num → Num
up zero x = x
up (suc k) x = next (up k x)

-- The next number is above, and nothing that is below it is above this one.
above : (p : Bool) (m : ℕ) → num_at_most (num p m) (next (num p m)) ≡ true
unfolding next less_by_one
above true zero = of_le true 0 false 1 tt
above true (suc zero) = of_le true 1 false 0 tt
above true (suc (suc m)) = of_le true (suc (suc m)) true (suc m) (omega arith)
above false m = of_le false m false (suc m) (omega arith)

not_le : (q : Bool) (n : ℕ) (p : Bool) (m : ℕ) → (Le q n p m → ⊥) → num_at_most (num q n) (num p m) ≡ false
not_le q n p m f = by (num_at_most (num q n) (num p m)) refl
  where
    by : (c : Bool) → num_at_most (num q n) (num p m) ≡ c → c ≡ false
    by true e = absurd (f (le_of q n p m e))
    by false e = refl

strictly : (p : Bool) (m : ℕ) (q : Bool) (n : ℕ) → (p ≡ true → 0 < m) → num_at_most (next (num p m)) (num q n) ≡ true → num_at_most (num q n) (num p m) ≡ false
unfolding next less_by_one
strictly true zero q n h g = absurd (let z : 0 < 0 = h refl in omega arith)
strictly true (suc zero) true n h g = absurd (le_of false 0 true n g)
strictly true (suc zero) false n h g = not_le false n true 1 (λ i. i)
strictly true (suc (suc m)) true n h g = let x = le_of true (suc m) true n g in not_le true n true (suc (suc m)) (λ (i : suc (suc m) ≤ n). omega arith)
strictly true (suc (suc m)) false n h g = not_le false n true (suc (suc m)) (λ i. i)
strictly false m true n h g = absurd (le_of false (suc m) true n g)
strictly false m false n h g = let x = le_of false (suc m) false n g in not_le false n false m (λ (i : n ≤ m). omega arith)

next_proper : (p : Bool) (m : ℕ) → Proper (num p m) → Proper (next (num p m))
unfolding next less_by_one
next_proper true zero h = λ e. absurd (false≢true e)
next_proper true (suc zero) h = λ e. absurd (false≢true e)
next_proper true (suc (suc m)) h = λ e. omega arith
next_proper false m h = λ e. absurd (false≢true e)

up_proper : (k : ℕ) (x : Num) → Proper x → Proper (up k x)
unfolding up
up_proper zero x h = h
up_proper (suc k) x h = next_proper (up k x).negative (up k x).amount (up_proper k x h)

low_up : (k : ℕ) (x : Num) → num_at_most x (up k x) ≡ true
unfolding up
low_up zero x = of_le x.negative x.amount x.negative x.amount (le_refl x.negative x.amount)
low_up (suc k) x = at_most_trans x (up k x) (next (up k x)) (low_up k x) (above (up k x).negative (up k x).amount)

climb : (low high : Num) (ts : List Word) → Proper low → among_numbers low ts ≡ true → followed low high ts ts ≡ true → (k : ℕ) → num_at_most (up k low) high ≡ true
    → among_numbers (up k low) ts ≡ true
unfolding up
climb low high ts h a f zero g = a
climb low high ts h a f (suc k) g =
    let y = up k low in
    let i = at_most_trans y (next y) high (above y.negative y.amount) g in
    followed_by low high y ts ts f (climb low high ts h a f k i) (low_up k low)
    (strictly y.negative y.amount high.negative high.amount (up_proper k low h) g)

-- Every number from low on is reached.
up_up : (j i : ℕ) (x : Num) → up (j + i) x ≡ up j (up i x)
unfolding up
up_up zero i x = let e : 0 + i ≡ i = omega arith in ap (λ k. up k x) e
up_up (suc j) i x = let e : suc j + i ≡ suc (j + i) = omega arith in ap (λ k. up k x) e ∙ ap next (up_up j i x)

up_positive : (j m : ℕ) → up j (num false m) ≡ num false (j + m)
unfolding up next
up_positive zero m = let e : m ≡ 0 + m = omega arith in ap (num false) e
up_positive (suc j) m = let e : suc (j + m) ≡ suc j + m = omega arith in ap next (up_positive j m) ∙ ap (num false) e

up_negative : (j r : ℕ) → up j (num true (suc (j + r))) ≡ num true (suc r)
unfolding up next less_by_one
up_negative zero r = let e : suc (0 + r) ≡ suc r = omega arith in ap (num true) e
up_negative (suc j) r =
    let e : suc (suc j + r) ≡ suc (j + suc r) = omega arith in
    ap (λ m. next (up j (num true m))) e ∙ ap next (up_negative j (suc r))

pub record Up (low n : Num) : Type 0 where
  pub steps : ℕ
  pub is : up steps low ≡ n

reach : (p : Bool) (m : ℕ) (q : Bool) (n : ℕ) → Proper (num p m) → Proper (num q n) → Le p m q n → Up (num p m) (num q n)
unfolding up next less_by_one
reach true zero q n h g l = absurd (let z : 0 < 0 = h refl in omega arith)
reach true (suc m) true zero h g l = absurd (let z : 0 < 0 = g refl in omega arith)
reach true (suc m) true (suc n) h g l =
    let e : suc m ≡ suc ((m - n) + n) = omega arith in
    record { steps = m - n; is = ap (λ k. up (m - n) (num true k)) e ∙ up_negative (m - n) n }
reach true (suc m) false n h g l =
    let e : suc m ≡ suc (m + 0) = omega arith in
    let z : n + 0 ≡ n = omega arith in
    let a : up (suc m) (num true (suc m)) ≡ num false 0 = ap (λ k. next (up m (num true k))) e ∙ ap next (up_negative m 0) in
    record { steps = n + suc m; is = up_up n (suc m) (num true (suc m)) ∙ ap (up n) a ∙ up_positive n 0 ∙ ap (num false) z }
reach false m true n h g l = absurd l
reach false m false n h g l =
    let e : (n - m) + m ≡ n = omega arith in
    record { steps = n - m; is = up_positive (n - m) m ∙ ap (num false) e }

-- All numbers from low through high are in the bounds.
pub spans_all : (b : Bounds) (low high n : Num) → spans b low high ≡ true → Proper low → Proper n → num_at_most low n ≡ true → num_at_most n high ≡ true → in_bounds n b ≡ true
unfolding spans in_bounds
spans_all no_bounds low high n s h g i j = refl
spans_all (from_to a z) low high n s h g i j =
    both_is (at_most_trans a.number low n (both_left (num_at_most a.number low) (num_at_most high z.number) s) i)
    (at_most_trans n high z.number j (both_right (num_at_most a.number low) (num_at_most high z.number) s))
spans_all (one_of ts) low high n s h g i j =
    let u = reach low.negative low.amount n.negative n.amount h g (le_of low.negative low.amount n.negative n.amount i) in
    subst (λ m. among_numbers m ts ≡ true) u.is
    (climb low high ts h (both_left (among_numbers low ts) (followed low high ts ts) s) (both_right (among_numbers low ts) (followed low high ts ts) s) u.steps (ap (λ m. num_at_most m high) u.is ∙ j))

least_proper : (i : Integer) → Proper (least_of (signed i) (width i))
unfolding least_of signed width
least_proper UINT32 = λ e. absurd (false≢true e)
least_proper INT32 = λ e. omega arith
least_proper UINT64 = λ e. absurd (false≢true e)
least_proper INT64 = λ e. omega arith

-- THE THEOREM of integers: where the test holds, every number of the type that is in the bounds c is in the bounds b too.
abbrev ProperBounds : Bounds → Type 0
ProperBounds no_bounds = Unit {0}
ProperBounds (from_to a b) = Proper a.number
ProperBounds (one_of ts) = Unit {0}

within_all : (i : Integer) (b c : Bounds) → ProperBounds c → within i b c ≡ true → (n : Num) → Proper n → in_type i n ≡ true → in_bounds n c ≡ true → in_bounds n b ≡ true
unfolding within in_type in_bounds
within_all i b no_bounds p h n g t k =
    let lo = least_of (signed i) (width i) in
    let hi = greatest_of (signed i) (width i) in
    spans_all b lo hi n h (least_proper i) g (both_left (num_at_most lo n) (num_at_most n hi) t) (both_right (num_at_most lo n) (num_at_most n hi) t)
within_all i b (from_to lo hi) p h n g t k =
    spans_all b lo.number hi.number n h p g (both_left (num_at_most lo.number n) (num_at_most n hi.number) k) (both_right (num_at_most lo.number n) (num_at_most n hi.number) k)
within_all i b (one_of ts) p h n g t k = all_listed b n ts h k

-- And back -------------------------------------------------------------------------------------------------------------------------------------

le_not : (q : Bool) (n : ℕ) (p : Bool) (m : ℕ) → num_at_most (num q n) (num p m) ≡ false → Le q n p m → ⊥
le_not q n p m h l = false≢true (sym h ∙ of_le q n p m l)

next_below : (p : Bool) (m : ℕ) (q : Bool) (n : ℕ) → (p ≡ true → 0 < m) → (q ≡ true → 0 < n) → num_at_most (num q n) (num p m) ≡ false → num_at_most (next (num p m)) (num q n) ≡ true
unfolding next less_by_one
next_below true zero q n h g f = absurd (let z : 0 < 0 = h refl in omega arith)
next_below true (suc zero) true n h g f = absurd (let z : 0 < n = g refl in le_not true n true 1 f (omega arith))
next_below true (suc zero) false n h g f = of_le false 0 false n (omega arith)
next_below true (suc (suc m)) true n h g f =
    let x : n ≤ suc m = by (leb n (suc m)) refl in
    of_le true (suc m) true n x
  where
    by : (c : Bool) → leb n (suc m) ≡ c → n ≤ suc m
    by true e = leb-true n (suc m) e
    by false e = let y = leb-false n (suc m) e in absurd (le_not true n true (suc (suc m)) f (omega arith))
next_below true (suc (suc m)) false n h g f = of_le true (suc m) false n tt
next_below false m true n h g f = absurd (le_not true n false m f tt)
next_below false m false n h g f =
    let x : suc m ≤ n = by (leb (suc m) n) refl in
    of_le false (suc m) false n x
  where
    by : (c : Bool) → leb (suc m) n ≡ c → suc m ≤ n
    by true e = leb-true (suc m) n e
    by false e = let y = leb-false (suc m) n e in absurd (le_not false n false m f (omega arith))

pub equal_self : (a : Num) → equal a a ≡ true
unfolding equal
equal_self a = let h = of_le a.negative a.amount a.negative a.amount (le_refl a.negative a.amount) in both_is h h

-- Every number from low through high is in the bounds b.
abbrev Filled : Bounds → Num → Num → Type 0
Filled b low high = (n : Num) → Proper n → num_at_most low n ≡ true → num_at_most n high ≡ true → in_bounds n b ≡ true

filled_followed : (all ts : List Word) (low high : Num) → AllProper ts → Proper high → Filled (one_of all) low high → followed low high all ts ≡ true
unfolding followed in_bounds
filled_followed all [] low high p h f = refl
filled_followed all (t ∷ ts) low high p h f =
    both_is (by (num_at_most low t.number) (num_at_most high t.number) refl refl) (filled_followed all ts low high p.1 h f)
  where
    by : (c e : Bool) → num_at_most low t.number ≡ c → num_at_most high t.number ≡ e → either (not (both c (not e))) (among_numbers (next t.number) all) ≡ true
    by false e i j = refl
    by true true i j = refl
    by true false i j =
        f (next t.number) (next_proper t.number.negative t.number.amount p.0)
        (at_most_trans low t.number (next t.number) i (above t.number.negative t.number.amount))
        (next_below t.number.negative t.number.amount high.negative high.amount p.0 h j)

filled_spans : (b : Bounds) (low high : Num) → ListedProper b → Proper low → Proper high → num_at_most low high ≡ true → Filled b low high → spans b low high ≡ true
unfolding spans in_bounds
filled_spans no_bounds low high p h g l f = refl
filled_spans (from_to a z) low high p h g l f =
    let self = of_le low.negative low.amount low.negative low.amount (le_refl low.negative low.amount) in
    let self₂ = of_le high.negative high.amount high.negative high.amount (le_refl high.negative high.amount) in
    both_is (both_left (num_at_most a.number low) (num_at_most low z.number) (f low h self l)) (both_right (num_at_most a.number high) (num_at_most high z.number) (f high g l self₂))
filled_spans (one_of ts) low high p h g l f =
    let self = of_le low.negative low.amount low.negative low.amount (le_refl low.negative low.amount) in
    both_is (f low h self l) (filled_followed ts ts low high p g f)

among_later : (n : Num) (t : Word) (ts : List Word) → among_numbers n ts ≡ true → among_numbers n (t ∷ ts) ≡ true
unfolding among_numbers
among_later n t ts h = by (equal n t.number)
  where
    by : (c : Bool) → either c (among_numbers n ts) ≡ true
    by true = refl
    by false = h

all_in_from : (i : Integer) (b : Bounds) (ts : List Word) → AllOf i ts → ((n : Num) → Proper n → in_type i n ≡ true → among_numbers n ts ≡ true → in_bounds n b ≡ true) → all_in b ts ≡ true
unfolding all_in among_numbers
all_in_from i b [] p f = refl
all_in_from i b (t ∷ ts) p f =
    both_is (f t.number p.0 p.1 (ap (λ c. either c (among_numbers t.number ts)) (equal_self t.number)))
    (all_in_from i b ts p.2 (λ n h g k. f n h g (among_later n t ts k)))

greatest_proper : (i : Integer) → Proper (greatest_of (signed i) (width i))
unfolding greatest_of signed width
greatest_proper UINT32 = λ e. absurd (false≢true e)
greatest_proper INT32 = λ e. absurd (false≢true e)
greatest_proper UINT64 = λ e. absurd (false≢true e)
greatest_proper INT64 = λ e. absurd (false≢true e)

least_greatest : (i : Integer) → num_at_most (least_of (signed i) (width i)) (greatest_of (signed i) (width i)) ≡ true
unfolding least_of greatest_of signed width num_at_most
least_greatest UINT32 = refl
least_greatest INT32 = refl
least_greatest UINT64 = refl
least_greatest INT64 = refl

-- THE THEOREM of integers, the other way: where every number of the type that is in the bounds c is in the bounds b, the test holds.
all_within : (i : Integer) (b c : Bounds) → ListedProper b → Faultless i c
    → ((n : Num) → Proper n → in_type i n ≡ true → in_bounds n c ≡ true → in_bounds n b ≡ true) → within i b c ≡ true
unfolding within in_type in_bounds
all_within i b no_bounds p q f =
    let lo = least_of (signed i) (width i) in
    let hi = greatest_of (signed i) (width i) in
    filled_spans b lo hi p (least_proper i) (greatest_proper i) (least_greatest i) (λ n h g k. f n h (both_is g k) refl)
all_within i b (from_to lo hi) p q f =
    let ll = least_of (signed i) (width i) in
    let gg = greatest_of (signed i) (width i) in
    filled_spans b lo.number hi.number p q.0 q.1 q.4 (λ n h g k.
    f n h
    (both_is (at_most_trans ll lo.number n (both_left (num_at_most ll lo.number) (num_at_most lo.number gg) q.2) g)
    (at_most_trans n hi.number gg k (both_right (num_at_most ll hi.number) (num_at_most hi.number gg) q.3)))
    (both_is g k))
all_within i b (one_of ts) p q f = all_in_from i b ts q f

faultless_proper : (i : Integer) (c : Bounds) → Faultless i c → ProperBounds c
faultless_proper i no_bounds q = tt
faultless_proper i (from_to lo hi) q = q.0
faultless_proper i (one_of ts) q = tt

-- The test of bounds holds exactly where every number of the one range is in the other.
pub within_exactly : (i : Integer) (b c : Bounds) → ListedProper b → Faultless i c
    → (within i b c ≡ true) ↔ ((n : Num) → Proper n → in_type i n ≡ true → in_bounds n c ≡ true → in_bounds n b ≡ true)
within_exactly i b c p q = ((λ h n g t k. within_all i b c (faultless_proper i c q) h n g t k), (λ f. all_within i b c p q f))
