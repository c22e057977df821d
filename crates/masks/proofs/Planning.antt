-- The planner gives a plan in which each AUTO event has the lowest bit outside, or names the first event for which all 64 are taken; and the
-- checker accepts every plan. Assumes nothing.
use mathlib.Core.Path.{◌≡◌, refl, sym, ◌∙◌, ap, subst}
use mathlib.Core.List.{List, [], ◌∷◌}
use mathlib.Core.Bool.{Bool, true, false, not}
use Prim.Native.Nat.{ℕ, zero, suc, ◌+◌, ◌<◌, ◌≤◌, ◌^◌}
use native.Mathlib.Omega.{arith}
use lib.ListN.{length, get_or, set, length-set}
use lib.Seq.{get_or-set_same, get_or-set_other}
use lib.Dec.{ltb}
use borrow.Author.Tests.{ltb-true, ltb-false, not-true, not-false}
use Rattle.token.specs.Find.{find}
use Rattle.token.proofs.Find.{find_holds, find_before}
use Rattle.meaning.specs.Words.{choose}
use Rattle.masks.specs.Bits.{has}
use Rattle.masks.specs.Masks.{Mask, given, automatic, Task, taken, lowest, before_plan, Plan, planned, full, plan_from, plan}
use Rattle.masks.specs.Statements.{Together, this_task, later_task, Other, Kept, given_kept, auto_kept, Fine, Counts, by_given, by_earlier, Taken, Proposal, PlanBefore, FullAt}
use Rattle.masks.proofs.Powers.{has_zero, has_own, has_only}
use Rattle.masks.proofs.Reflections.{not_both, Order, less, same, more, order, beside_true, beside_is, from_zero}

-- Masks ------------------------------------------------------------------------------------------------------------------------------------

given_not_auto : {g : ℕ} {r : Mask} → r ≡ given g → r ≡ automatic → ⊥
given_not_auto {g} e q = let z : ◌≡◌ {A = Mask} (given g) automatic = sym e ∙ q in let y : ◌≡◌ {A = ℕ} 0 1 = cc in omega (arith, y)

-- By the sort of a mask.
data Sort (r : Mask) : Type 0 where
  a_given : (g : ℕ) → r ≡ given g → Sort r
  an_auto : r ≡ automatic → Sort r

sort : (r : Mask) → Sort r
sort (given g) = a_given g refl
sort automatic = an_auto refl

-- What counts ------------------------------------------------------------------------------------------------------------------------------

taken_as : {ts : List Task} {rs : List Mask} {l l' : List ℕ} {i k : ℕ} → ((j : ℕ) → j < length rs → Counts rs i j → get_or l j 0 ≡ get_or l' j 0) → Taken ts rs l i k → Taken ts rs l' i k
taken_as {k = k} f t = record { at = t.at; other = t.other; counts = t.counts; has_it = ap (λ (m : ℕ). has m k) (sym (f t.at t.other.event t.counts)) ∙ t.has_it }

-- One plan ---------------------------------------------------------------------------------------------------------------------------------

module _ {ts : List Task} {rs : List Mask} {l l' : List ℕ} {i i' : ℕ} (a : PlanBefore ts rs l i) (b : PlanBefore ts rs l' i') where
  -- What counts for the event m is the same, if the earlier masks are.
  counted : (m : ℕ) → ((j : ℕ) → j < m → j < length rs → get_or l j 0 ≡ get_or l' j 0) → (j : ℕ) → j < length rs → Counts rs m j → get_or l j 0 ≡ get_or l' j 0
  counted m f j h (by_given {g} e) = a.kept j g h e ∙ sym (b.kept j g h e)
  counted m f j h (by_earlier q) = f j q h

  one_bit : (m : ℕ) → ((j : ℕ) → j < length rs → Counts rs m j → get_or l j 0 ≡ get_or l' j 0) → (p : Proposal ts rs l m) → (q : Proposal ts rs l' m) → get_or l m 0 ≡ get_or l' m 0
  one_bit m f p q = go (order p.bit q.bit)
    where
      go : Order p.bit q.bit → get_or l m 0 ≡ get_or l' m 0
      go (less h) = absurd (p.outside (taken_as (λ j x y. sym (f j x y)) (q.lowest p.bit h)))
      go (same e) = p.is ∙ ap (λ (k : ℕ). 2 ^ k) e ∙ sym q.is
      go (more h) = absurd (q.outside (taken_as f (p.lowest q.bit h)))

  -- Two plans agree as far as both go.
  agree : (n : ℕ) → n ≤ i → n ≤ i' → (j : ℕ) → j < n → j < length rs → get_or l j 0 ≡ get_or l' j 0
  agree zero h k j c d = absurd (omega arith)
  agree (suc n) h k j c d = go (order j n) (λ x y. agree n x y)
    where
      go : Order j n → (n ≤ i → n ≤ i' → (j : ℕ) → j < n → j < length rs → get_or l j 0 ≡ get_or l' j 0) → get_or l j 0 ≡ get_or l' j 0
      go (less x) f = f (omega (arith, h)) (omega (arith, k)) j x d
      go (more x) f = absurd (omega (arith, x, c))
      go (same e) f = by (sort (get_or rs j automatic))
        where
          by : Sort (get_or rs j automatic) → get_or l j 0 ≡ get_or l' j 0
          by (a_given g q) = a.kept j g d q ∙ sym (b.kept j g d q)
          by (an_auto q) =
              let u : j < i = omega (arith, h, e) in
              let v : j < i' = omega (arith, k, e) in
              let w : n ≤ i = omega (arith, h) in
              let z : n ≤ i' = omega (arith, k) in
              one_bit j (λ m x y. counted j (λ r c1 c2. let c3 : r < n = omega (arith, c1, e) in f w z r c3 c2) m x y) (a.proposed j u d q) (b.proposed j v d q)

-- The run ----------------------------------------------------------------------------------------------------------------------------------

module _ (ts : List Task) (rs : List Mask) where
  -- The masks l before the turn of the event i: no later AUTO event has a bit.
  record Turn (l : List ℕ) (i : ℕ) : Type 0 where
    before : PlanBefore ts rs l i
    later : (j : ℕ) → i ≤ j → j < length rs → get_or rs j automatic ≡ automatic → get_or l j 0 ≡ 0

  taken_true : {l : List ℕ} {i k : ℕ} → Turn l i → taken ts i l k ≡ true → Taken ts rs l i k
  unfolding taken
  taken_true {l} {i} {k} t e =
      let b = beside_true ts i (λ n. has n k) l e in
      let n = t.before.one_each in
      let h = b.other.event in
      let m : b.at < length rs = omega (arith, n, h) in
      record { at = b.at; other = record { event = m; another = b.other.another; together = b.other.together }; counts = go b.at m b.holds (sort (get_or rs b.at automatic)) (order b.at i); has_it = b.holds }
    where
      go : (j : ℕ) → j < length rs → has (get_or l j 0) k ≡ true → Sort (get_or rs j automatic) → Order j i → Counts rs i j
      go j m y (a_given g q) o = by_given q
      go j m y (an_auto q) (less h) = by_earlier h
      go j m y (an_auto q) (same z) = let x : i ≤ j = omega (arith, z) in absurd (not_both y (ap (λ (n : ℕ). has n k) (t.later j x m q) ∙ has_zero k))
      go j m y (an_auto q) (more h) = let x : i ≤ j = omega (arith, h) in absurd (not_both y (ap (λ (n : ℕ). has n k) (t.later j x m q) ∙ has_zero k))

  taken_is : {l : List ℕ} {i k : ℕ} → length l ≡ length rs → Taken ts rs l i k → taken ts i l k ≡ true
  unfolding taken
  taken_is {l} {i} {k} n t =
      let h = t.other.event in
      let m : t.at < length l = omega (arith, n, h) in
      beside_is ts i (λ x. has x k) l t.at (record { event = m; another = t.other.another; together = t.other.together }) t.has_it

  -- The next turn, after a given mask.
  given_turn : {l : List ℕ} {i g : ℕ} → get_or rs i automatic ≡ given g → Turn l i → Turn l (suc i)
  given_turn {l} {i} {g} e t = record {
    before = record { one_each = t.before.one_each; kept = t.before.kept; proposed = λ j h c q. go j h c q (order j i) };
    later = λ j h c q. let x : i ≤ j = omega (arith, h) in t.later j x c q;
  }
    where
      go : (j : ℕ) → j < suc i → j < length rs → get_or rs j automatic ≡ automatic → Order j i → Proposal ts rs l j
      go j h c q (less x) = t.before.proposed j x c q
      go j h c q (same x) = absurd (given_not_auto (ap (λ (n : ℕ). get_or rs n automatic) x ∙ e) q)
      go j h c q (more x) = absurd (omega (arith, h, x))

  -- And after a proposal.
  auto_turn : {l : List ℕ} {i : ℕ} → i < length rs → get_or rs i automatic ≡ automatic → Turn l i → lowest ts i l < 64 → Turn (set l i (2 ^ lowest ts i l)) (suc i)
  unfolding lowest
  auto_turn {l} {i} b e t h = record {
    before = record { one_each = length-set l i (2 ^ k) ∙ t.before.one_each; kept = kept; proposed = λ j c d q. go j c d q (order j i) };
    later = λ j x c q. let y : i ≤ j = omega (arith, x) in let z : j ≡ i → ⊥ = λ (w : j ≡ i). omega (arith, x, w) in get_or-set_other l i j (2 ^ k) 0 z ∙ t.later j y c q;
  }
    where
      k : ℕ
      k = find (λ n. not (taken ts i l n)) 64 0

      l' : List ℕ
      l' = set l i (2 ^ k)

      inside : i < length l
      inside = let n = t.before.one_each in omega (arith, n, b)

      kept : (j g : ℕ) → j < length rs → get_or rs j automatic ≡ given g → get_or l' j 0 ≡ g
      kept j g c q = get_or-set_other l i j (2 ^ k) 0 (λ x. given_not_auto q (ap (λ (n : ℕ). get_or rs n automatic) x ∙ e)) ∙ t.before.kept j g c q

      -- What counts up to this turn is as before.
      still : (m : ℕ) → m ≤ i → (j : ℕ) → j < length rs → Counts rs m j → get_or l j 0 ≡ get_or l' j 0
      still m x j c (by_given {g} q) = t.before.kept j g c q ∙ sym (kept j g c q)
      still m x j c (by_earlier h) = sym (get_or-set_other l i j (2 ^ k) 0 (λ (w : j ≡ i). omega (arith, x, h, w)))

      go : (j : ℕ) → j < suc i → j < length rs → get_or rs j automatic ≡ automatic → Order j i → Proposal ts rs l' j
      go j c d q (less x) =
          let p = t.before.proposed j x d q in
          let y : j ≤ i = omega (arith, x) in
          record {
            bit = p.bit;
            below = p.below;
            is = get_or-set_other l i j (2 ^ k) 0 (λ (w : j ≡ i). omega (arith, x, w)) ∙ p.is;
            outside = λ z. p.outside (taken_as (λ m u v. sym (still j y m u v)) z);
            lowest = λ n u. taken_as (still j y) (p.lowest n u);
          }
      go j c d q (same x) = subst (Proposal ts rs l') (sym x) own
        where
          own : Proposal ts rs l' i
          own = record {
            bit = k;
            below = h;
            is = get_or-set_same l i (2 ^ k) 0 inside;
            outside = λ z. not_both (taken_is t.before.one_each (taken_as (λ m u v. sym (still i (omega arith) m u v)) z)) (not-true (taken ts i l k) (find_holds (λ n. not (taken ts i l n)) 64 0 (omega arith) h));
            lowest = λ n u. taken_as (still i (omega arith)) (taken_true t (not-false (taken ts i l n) (find_before (λ n. not (taken ts i l n)) 64 0 n (omega arith) u)));
          }
      go j c d q (more x) = absurd (omega (arith, c, x))

  -- What a run can come to.
  pub data Outcome : Plan → Type 0 where
    a_plan : {l : List ℕ} → PlanBefore ts rs l (length rs) → Outcome (planned l)
    no_plan : {i : ℕ} → FullAt ts rs i → Outcome (full i)

  chosen : (b : Bool) {x y : Plan} → (b ≡ true → Outcome x) → (b ≡ false → Outcome y) → Outcome (choose b (λ _. x) (λ _. y))
  unfolding choose
  chosen true f g = f refl
  chosen false f g = g refl

  run : (left : List Mask) (l : List ℕ) (i : ℕ) → length rs ≡ i + length left → ((m : ℕ) → get_or rs (i + m) automatic ≡ get_or left m automatic) → Turn l i → Outcome (plan_from ts l i left)
  unfolding plan_from lowest
  run [] l i n e t = let z : i ≡ length rs = omega (arith, n) in a_plan (subst (PlanBefore ts rs l) z t.before)
  run (given g ∷ left) l i n e t =
      let z : i ≡ i + 0 = omega arith in
      let q : get_or rs i automatic ≡ given g = ap (λ (x : ℕ). get_or rs x automatic) z ∙ e 0 in
      let y : length rs ≡ suc i + length left = omega (arith, n) in
      run left l (suc i) y (λ m. let x : suc i + m ≡ i + suc m = omega arith in ap (λ (w : ℕ). get_or rs w automatic) x ∙ e (suc m)) (given_turn q t)
  run (automatic ∷ left) l i n e t =
      let z : i ≡ i + 0 = omega arith in
      let q : get_or rs i automatic ≡ automatic = ap (λ (x : ℕ). get_or rs x automatic) z ∙ e 0 in
      let y : length rs ≡ suc i + length left = omega (arith, n) in
      let b : i < length rs = omega (arith, n) in
      let k = lowest ts i l in
      chosen (ltb k 64)
      (λ h. run left (set l i (2 ^ k)) (suc i) y (λ m. let x : suc i + m ≡ i + suc m = omega arith in ap (λ (w : ℕ). get_or rs w automatic) x ∙ e (suc m)) (auto_turn b q t (ltb-true k 64 h)))
      (λ h. no_plan (record { list = l; before = t.before; event = b; auto = q; all = λ m u. let v = ltb-false k 64 h in let w : m < k = omega (arith, u, v) in taken_true t (not-false (taken ts i l m) (find_before (λ x. not (taken ts i l x)) 64 0 m (omega arith) w)) }))

before_length : (rs : List Mask) → length (before_plan rs) ≡ length rs
unfolding before_plan
before_length [] = refl
before_length (given g ∷ rs) = ap suc (before_length rs)
before_length (automatic ∷ rs) = ap suc (before_length rs)

before_given : (rs : List Mask) (j g : ℕ) → get_or rs j automatic ≡ given g → get_or (before_plan rs) j 0 ≡ g
unfolding before_plan
before_given [] j g e = absurd (given_not_auto e refl)
before_given (given m ∷ rs) zero g e = cc
before_given (given m ∷ rs) (suc j) g e = before_given rs j g e
before_given (automatic ∷ rs) zero g e = absurd (given_not_auto e refl)
before_given (automatic ∷ rs) (suc j) g e = before_given rs j g e

before_auto : (rs : List Mask) (j : ℕ) → get_or rs j automatic ≡ automatic → get_or (before_plan rs) j 0 ≡ 0
unfolding before_plan
before_auto [] j e = refl
before_auto (given m ∷ rs) zero e = absurd (given_not_auto refl e)
before_auto (given m ∷ rs) (suc j) e = before_auto rs j e
before_auto (automatic ∷ rs) zero e = refl
before_auto (automatic ∷ rs) (suc j) e = before_auto rs j e

outcome : (ts : List Task) (rs : List Mask) → Outcome ts rs (plan ts rs)
unfolding plan
outcome ts rs =
    run ts rs rs (before_plan rs) 0 (omega arith) (λ m. ap (λ (x : ℕ). get_or rs x automatic) (from_zero m))
    (record {
      before = record { one_each = before_length rs; kept = λ j g h e. before_given rs j g e; proposed = λ j h. absurd (omega (arith, h)) };
      later = λ j h c q. before_auto rs j q;
    })

of_planned : {ts : List Task} {rs : List Mask} {l : List ℕ} {p : Plan} → Outcome ts rs p → p ≡ planned l → PlanBefore ts rs l (length rs)
of_planned {ts} {rs} {l} (a_plan {l = m} b) e = let z : m ≡ l = cc in subst (λ (x : List ℕ). PlanBefore ts rs x (length rs)) z b
of_planned (no_plan f) e = absurd (let y : ◌≡◌ {A = ℕ} 0 1 = cc in omega (arith, y))

of_full : {ts : List Task} {rs : List Mask} {i : ℕ} {p : Plan} → Outcome ts rs p → p ≡ full i → FullAt ts rs i
of_full (a_plan b) e = absurd (let y : ◌≡◌ {A = ℕ} 0 1 = cc in omega (arith, y))
of_full {ts} {rs} {i} (no_plan {i = j} f) e = let z : j ≡ i = cc in subst (FullAt ts rs) z f

-- A PLAN gives each AUTO event "the lowest bit outside the given masks and the earlier proposals, both only of events that share a task with it".
pub plans : (ts : List Task) (rs : List Mask) (l : List ℕ) → plan ts rs ≡ planned l → PlanBefore ts rs l (length rs)
plans ts rs l e = of_planned (outcome ts rs) e

-- THE PLANNER REFUSES ONLY where all 64 bits are taken for an event; it names the first such event,
pub refuses_only : (ts : List Task) (rs : List Mask) (i : ℕ) → plan ts rs ≡ full i → FullAt ts rs i
refuses_only ts rs i e = of_full (outcome ts rs) e

-- An event for which all bits are taken has no proposal in any plan.
no_bit : {ts : List Task} {rs : List Mask} {i j : ℕ} {l : List ℕ} → (f : FullAt ts rs i) → PlanBefore ts rs l j → i < j → ⊥
no_bit {ts} {rs} {i} {j} {l} f b h =
    let p = b.proposed i h f.event f.auto in
    let x : i ≤ j = omega (arith, h) in
    p.outside (taken_as (counted f.before b i (agree f.before b i (omega arith) x)) (f.all p.bit p.below))

refused_so : {ts : List Task} {rs : List Mask} {i : ℕ} {p : Plan} → FullAt ts rs i → Outcome ts rs p → p ≡ full i
refused_so f (a_plan b) = absurd (no_bit f b f.event)
refused_so {i = i} f (no_plan {i = j} g) = go (order i j)
  where
    go : Order i j → full j ≡ full i
    go (less h) = absurd (no_bit f g.before h)
    go (same e) = ap full (sym e)
    go (more h) = absurd (no_bit g f.before h)

-- and it refuses wherever there is one.
pub refuses_all : (ts : List Task) (rs : List Mask) (i : ℕ) → FullAt ts rs i → plan ts rs ≡ full i
refuses_all ts rs i f = refused_so f (outcome ts rs)

-- The checker accepts it -------------------------------------------------------------------------------------------------------------------

turned : {ts : List Task} {i j : ℕ} → Together ts i j → Together ts j i
turned (this_task a b) = this_task b a
turned (later_task q) = later_task (turned q)

other_turned : {ts : List Task} {n i j : ℕ} → i < n → Other ts n i j → Other ts n j i
other_turned h o = record { event = h; another = λ e. o.another (sym e); together = turned o.together }

-- THE CHECKER ACCEPTS EVERY PLAN.
pub plan_fine : (ts : List Task) (rs : List Mask) (l : List ℕ) → PlanBefore ts rs l (length rs) → Fine ts rs l
plan_fine ts rs l b = record { one_each = b.one_each; each = λ i h. each i h (sort (get_or rs i automatic)) }
  where
    -- A proposal's bit is in no mask of another event of a same task.
    apart : (i j : ℕ) (h : i < length rs) (q : get_or rs i automatic ≡ automatic) → Other ts (length l) i j → has (get_or l j 0) (b.proposed i h h q).bit ≡ true → Sort (get_or rs j automatic) → Order j i → ⊥
    apart i j h q o y s t = go s t
      where
        p : Proposal ts rs l i
        p = b.proposed i h h q

        inside : j < length rs
        inside = let n = b.one_each in let m = o.event in omega (arith, n, m)

        own : Other ts (length rs) i j
        own = record { event = inside; another = o.another; together = o.together }

        go : Sort (get_or rs j automatic) → Order j i → ⊥
        go (a_given g e) u = p.outside (record { at = j; other = own; counts = by_given e; has_it = y })
        go (an_auto e) (less u) = p.outside (record { at = j; other = own; counts = by_earlier u; has_it = y })
        go (an_auto e) (same u) = o.another (sym u)
        go (an_auto e) (more u) =
            let r = b.proposed j inside inside e in
            let k : r.bit ≡ p.bit = has_only r.bit p.bit (ap (λ (m : ℕ). has m p.bit) (sym r.is) ∙ y) in
            r.outside (record { at = i; other = other_turned h own; counts = by_earlier u; has_it = ap (λ (m : ℕ). has m r.bit) p.is ∙ ap (has (2 ^ p.bit)) k ∙ has_own p.bit })

    each : (i : ℕ) → i < length rs → Sort (get_or rs i automatic) → Kept ts l i (get_or rs i automatic)
    each i h (a_given g q) = subst (Kept ts l i) (sym q) (given_kept (b.kept i g h q))
    each i h (an_auto q) =
        let p = b.proposed i h h q in
        subst (Kept ts l i) (sym q)
        (auto_kept (record { bit = p.bit; below = p.below; is = p.is }) (λ j o k c x y.
        let e : p.bit ≡ k = has_only p.bit k (ap (λ (m : ℕ). has m k) (sym p.is) ∙ x) in
        apart i j h q o (ap (has (get_or l j 0)) e ∙ y) (sort (get_or rs j automatic)) (order j i)))
