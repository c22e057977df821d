-- The tests of specs/ and what they mean. Assumes nothing.
use mathlib.Core.Path.{◌≡◌, refl, sym, ◌∙◌, ap}
use mathlib.Core.List.{List, [], ◌∷◌}
use mathlib.Core.Bool.{Bool, true, false, not}
use Prim.Native.Nat.{ℕ, zero, suc, ◌+◌, ◌<◌, ◌^◌}
use native.Mathlib.Omega.{arith}
use mathlib.Core.Logic.{⊎_elim}
use native.Mathlib.Nat.{eq-or-lt_of_le, le_of_suc-le-suc}
use lib.ListN.{length, get_or}
use lib.Dec.{eqb, ltb}
use borrow.Author.Tests.{ltb-true, ltb-false, eqb-true, eqb-false, eq-eqb, ne_eqb, not-true}
use Rattle.token.specs.Find.{pick, both, either}
use Rattle.token.proofs.Bytes.{both_true, both_second}
use Rattle.masks.specs.Bits.{has, some_below, single, common}
use Rattle.masks.specs.Masks.{Mask, given, automatic, Task, meets, beside, keeps}
use Rattle.masks.specs.Statements.{Together, this_task, later_task, Other, OneBit, Apart, Kept, given_kept, auto_kept}

-- Truth ------------------------------------------------------------------------------------------------------------------------------------

pub not_both : {b : Bool} → b ≡ true → b ≡ false → ⊥
not_both e q = let z : ◌≡◌ {A = ℕ} (pick true 1 0) (pick false 1 0) = ap (λ (x : Bool). pick x 1 0) (sym e ∙ q) in omega (arith, z)

pub both_intro : {a b : Bool} → a ≡ true → b ≡ true → both a b ≡ true
both_intro {a} {b} p q = ap (λ (x : Bool). both x b) p ∙ q

pub either_one : {a : Bool} (b : Bool) → a ≡ true → either a b ≡ true
either_one {a} b p = ap (λ (x : Bool). either x b) p

pub either_two : (a : Bool) {b : Bool} → b ≡ true → either a b ≡ true
either_two true q = refl
either_two false q = q

pub from_zero : (n : ℕ) → 0 + n ≡ n
from_zero n = omega arith

-- By cases of a test.
pub data Cases (b : Bool) : Type 0 where
  yes : b ≡ true → Cases b
  no : b ≡ false → Cases b

pub cases : (b : Bool) → Cases b
cases true = yes refl
cases false = no refl

pub not_yes : {b : Bool} → b ≡ false → not b ≡ true
not_yes e = ap not e

pub of_either : (a b : Bool) → either a b ≡ true → (a ≡ false → b ≡ true)
of_either true b e q = absurd (not_both refl q)
of_either false b e q = e

-- Two numbers.
pub data Order (a b : ℕ) : Type 0 where
  less : a < b → Order a b
  same : a ≡ b → Order a b
  more : b < a → Order a b

pub order : (a b : ℕ) → Order a b
order a b = go (cases (ltb a b)) (cases (ltb b a))
  where
    go : Cases (ltb a b) → Cases (ltb b a) → Order a b
    go (yes p) q = less (ltb-true a b p)
    go (no p) (yes q) = more (ltb-true b a q)
    go (no p) (no q) = let x = ltb-false a b p in let y = ltb-false b a q in same (omega (arith, x, y))

-- One below --------------------------------------------------------------------------------------------------------------------------------

pub record Below (n : ℕ) (p : ℕ → Bool) : Type 0 where
  pub number : ℕ
  pub below : number < n
  pub holds : p number ≡ true

pub some_below_true : (n : ℕ) (p : ℕ → Bool) → some_below n p ≡ true → Below n p
unfolding some_below
some_below_true zero p e = absurd (not_both e refl)
some_below_true (suc n) p e = go (cases (p n)) (λ x. some_below_true n p x)
  where
    go : Cases (p n) → (some_below n p ≡ true → Below n p) → Below (suc n) p
    go (yes q) f = record { number = n; below = omega arith; holds = q }
    go (no q) f = let r = f (of_either (p n) (some_below n p) e q) in let h = r.below in record { number = r.number; below = omega (arith, h); holds = r.holds }

lower : (k n : ℕ) → k < suc n → (k ≡ n → ⊥) → k < n
lower k n h d = ⊎_elim (λ (z : k ≡ n). absurd (d z)) (λ z. z) (eq-or-lt_of_le (le_of_suc-le-suc h))

pub some_below_is : (n : ℕ) (p : ℕ → Bool) (k : ℕ) → k < n → p k ≡ true → some_below n p ≡ true
unfolding some_below
some_below_is zero p k h e = absurd (omega arith)
some_below_is (suc n) p k h e = go (cases (eqb k n)) (λ r. some_below_is n p k r e)
  where
    go : Cases (eqb k n) → (k < n → some_below n p ≡ true) → either (p n) (some_below n p) ≡ true
    go (yes q) f = either_one (some_below n p) (ap p (sym (eqb-true k n q)) ∙ e)
    go (no q) f = either_two (p n) (f (lower k n h (eqb-false k n q)))

-- Others -----------------------------------------------------------------------------------------------------------------------------------

pub record Met (t : Task) (i : ℕ) (p : ℕ → Bool) (ns : List ℕ) (j : ℕ) : Type 0 where
  pub at : ℕ
  pub inside : at < length ns
  pub in_task : t (j + at) ≡ true
  pub another : i ≡ j + at → ⊥
  pub holds : p (get_or ns at 0) ≡ true

pub meets_true : (t : Task) (i : ℕ) (p : ℕ → Bool) (ns : List ℕ) (j : ℕ) → meets t i p ns j ≡ true → Met t i p ns j
unfolding meets
meets_true t i p [] j e = absurd (not_both e refl)
meets_true t i p (n ∷ ns) j e = go (cases (both (both (t j) (not (eqb i j))) (p n))) (λ x. meets_true t i p ns (suc j) x)
  where
    go : Cases (both (both (t j) (not (eqb i j))) (p n)) → (meets t i p ns (suc j) ≡ true → Met t i p ns (suc j)) → Met t i p (n ∷ ns) j
    go (yes q) f =
        let a = both_true (both (t j) (not (eqb i j))) (p n) q in
        let z : j ≡ j + 0 = omega arith in
        let d = eqb-false i j (not-true (eqb i j) (both_second (t j) (not (eqb i j)) a)) in
        record { at = 0; inside = omega arith; in_task = ap t (sym z) ∙ both_true (t j) (not (eqb i j)) a; another = λ x. d (x ∙ sym z); holds = both_second (both (t j) (not (eqb i j))) (p n) q }
    go (no q) f =
        let r = f (of_either (both (both (t j) (not (eqb i j))) (p n)) (meets t i p ns (suc j)) e q) in
        let h = r.inside in
        let z : suc j + r.at ≡ j + suc r.at = omega arith in
        record { at = suc r.at; inside = omega (arith, h); in_task = ap t (sym z) ∙ r.in_task; another = λ x. r.another (x ∙ sym z); holds = r.holds }

pub meets_is : (t : Task) (i : ℕ) (p : ℕ → Bool) (ns : List ℕ) (j m : ℕ) → m < length ns → t (j + m) ≡ true → (i ≡ j + m → ⊥) → p (get_or ns m 0) ≡ true → meets t i p ns j ≡ true
unfolding meets
meets_is t i p [] j m h a d e = absurd (omega arith)
meets_is t i p (n ∷ ns) j zero h a d e =
    let z : j ≡ j + 0 = omega arith in
    either_one (meets t i p ns (suc j)) (both_intro (both_intro (ap t z ∙ a) (not_yes (ne_eqb i j (λ x. d (x ∙ z))))) e)
meets_is t i p (n ∷ ns) j (suc m) h a d e =
    let z : suc j + m ≡ j + suc m = omega arith in
    let k : m < length ns = omega (arith, h) in
    either_two (both (both (t j) (not (eqb i j))) (p n)) (meets_is t i p ns (suc j) m k (ap t z ∙ a) (λ x. d (x ∙ z)) e)

pub record Beside (ts : List Task) (i : ℕ) (p : ℕ → Bool) (l : List ℕ) : Type 0 where
  pub at : ℕ
  pub other : Other ts (length l) i at
  pub holds : p (get_or l at 0) ≡ true

pub beside_true : (ts : List Task) (i : ℕ) (p : ℕ → Bool) (l : List ℕ) → beside ts i p l ≡ true → Beside ts i p l
unfolding beside
beside_true [] i p l e = absurd (not_both e refl)
beside_true (t ∷ ts) i p l e = go (cases (both (t i) (meets t i p l 0))) (λ x. beside_true ts i p l x)
  where
    go : Cases (both (t i) (meets t i p l 0)) → (beside ts i p l ≡ true → Beside ts i p l) → Beside (t ∷ ts) i p l
    go (yes q) f =
        let r = meets_true t i p l 0 (both_second (t i) (meets t i p l 0) q) in
        record { at = r.at; other = record { event = r.inside; another = λ x. r.another (x ∙ sym (from_zero r.at)); together = this_task (both_true (t i) (meets t i p l 0) q) (ap t (sym (from_zero r.at)) ∙ r.in_task) }; holds = r.holds }
    go (no q) f =
        let r = f (of_either (both (t i) (meets t i p l 0)) (beside ts i p l) e q) in
        record { at = r.at; other = record { event = r.other.event; another = r.other.another; together = later_task r.other.together }; holds = r.holds }

pub beside_is : (ts : List Task) (i : ℕ) (p : ℕ → Bool) (l : List ℕ) (j : ℕ) → Other ts (length l) i j → p (get_or l j 0) ≡ true → beside ts i p l ≡ true
unfolding beside
beside_is ts i p l j o e = go ts o.together
  where
    go : (us : List Task) → Together us i j → beside us i p l ≡ true
    go (t ∷ us) (this_task a b) = either_one (beside us i p l) (both_intro a (meets_is t i p l 0 j o.event (ap t (from_zero j) ∙ b) (λ x. o.another (x ∙ from_zero j)) e))
    go (t ∷ us) (later_task q) = either_two (both (t i) (meets t i p l 0)) (go us q)
    go [] x' = elim x' [ ]

-- The checker ------------------------------------------------------------------------------------------------------------------------------

pub single_true : (m : ℕ) → single m ≡ true → OneBit m
unfolding single
single_true m e = let r = some_below_true 64 (λ k. eqb m (2 ^ k)) e in record { bit = r.number; below = r.below; is = eqb-true m (2 ^ r.number) r.holds }

pub single_is : (m : ℕ) → OneBit m → single m ≡ true
unfolding single
single_is m o = some_below_is 64 (λ k. eqb m (2 ^ k)) o.bit o.below (eq-eqb m (2 ^ o.bit) o.is)

pub common_false : (m n : ℕ) → common m n ≡ false → Apart m n
unfolding common
common_false m n e k h a b = not_both (some_below_is 64 (λ i. both (has m i) (has n i)) k h (both_intro a b)) e

pub common_true : (m n : ℕ) → common m n ≡ true → Apart m n → ⊥
unfolding common
common_true m n e a =
    let r = some_below_true 64 (λ i. both (has m i) (has n i)) e in
    a r.number r.below (both_true (has m r.number) (has n r.number) r.holds) (both_second (has m r.number) (has n r.number) r.holds)

pub keeps_true : (ts : List Task) (l : List ℕ) (i : ℕ) (r : Mask) → keeps ts l i r (get_or l i 0) ≡ true → Kept ts l i r
unfolding keeps
keeps_true ts l i (given g) e = given_kept (eqb-true (get_or l i 0) g e)
keeps_true ts l i automatic e =
    let s = both_true (single (get_or l i 0)) (not (beside ts i (common (get_or l i 0)) l)) e in
    let b = not-true (beside ts i (common (get_or l i 0)) l) (both_second (single (get_or l i 0)) (not (beside ts i (common (get_or l i 0)) l)) e) in
    auto_kept (single_true (get_or l i 0) s) (λ j o. common_false (get_or l i 0) (get_or l j 0) (go j o b))
  where
    go : (j : ℕ) → Other ts (length l) i j → beside ts i (common (get_or l i 0)) l ≡ false → common (get_or l i 0) (get_or l j 0) ≡ false
    go j o b = by (cases (common (get_or l i 0) (get_or l j 0)))
      where
        by : Cases (common (get_or l i 0) (get_or l j 0)) → common (get_or l i 0) (get_or l j 0) ≡ false
        by (yes q) = absurd (not_both (beside_is ts i (common (get_or l i 0)) l j o q) b)
        by (no q) = q

pub keeps_is : (ts : List Task) (l : List ℕ) (i : ℕ) (r : Mask) → Kept ts l i r → keeps ts l i r (get_or l i 0) ≡ true
unfolding keeps
keeps_is ts l i (given g) (given_kept e) = eq-eqb (get_or l i 0) g e
keeps_is ts l i automatic (auto_kept o a) = both_intro (single_is (get_or l i 0) o) (not_yes (by (cases (beside ts i (common (get_or l i 0)) l))))
  where
    by : Cases (beside ts i (common (get_or l i 0)) l) → beside ts i (common (get_or l i 0)) l ≡ false
    by (yes q) = let r = beside_true ts i (common (get_or l i 0)) l q in absurd (common_true (get_or l i 0) (get_or l r.at 0) r.holds (a r.at r.other))
    by (no q) = q
