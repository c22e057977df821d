-- Rows in order, and what is found among them. Assumes nothing.
use mathlib.Core.Path.{◌≡◌, refl, sym, ◌∙◌, ap, ap₂, subst}
use mathlib.Core.List.{List, [], ◌∷◌}
use mathlib.Core.Bool.{Bool, true, false}
use Prim.Native.Nat.{ℕ, zero, suc, ◌+◌, ◌-◌, ◌*◌, ◌/◌, ◌%◌, ◌<◌, ◌≤◌}
use native.Mathlib.Omega.{arith}
use native.Mathlib.Decide.{dec_lt}
use native.Mathlib.Nat.{not-suc-le-zero, le_of_suc-le-suc}
use lib.Dec.{eqb, ltb}
use lib.ListN.{length, get_or, take}
use borrow.Author.Tests.{eq-eqb, lt-ltb, le-ltb}
use Rattle.token.specs.Find.{pick, both}
use Rattle.sorting.specs.Sorted.{Rising, Sorted}
use Rattle.sorting.proofs.Cells.{among_at, rising_places}
use Rattle.indexes.proofs.Places.{Place, among_place}
use Rattle.comparing.specs.Partners.{step_from, partners, last_position, Small}
use Rattle.comparing.specs.Columns.{Holds}
use Rattle.comparing.specs.Ordering.{key_of, IsKey, entry_of, Bounded, EntryOf, StandsIn, Ordered, Parted, FirstPlace, FindsStep, FindsPartners, FindsPosition}
use Rattle.comparing.proofs.Alikes.{both_of}
use Rattle.comparing.proofs.Partnered.{Has, not_has}
use Rattle.comparing.proofs.Reckoning.{Ready, front, front_all, front_empty, front_last}

-- Numbers of pairs -------------------------------------------------------------------------------------------------------------------------

pub key_low : (a b : ℕ) → a < 131072 → b < 8589934592 → a * 8589934592 + b ≡ key_of a b
unfolding key_of
key_low a b h g =
    sym (ap₂ (λ (p q : Bool). pick (both p q) (a * 8589934592 + b) 1125899906842624) (lt-ltb a 131072 h) (lt-ltb b 8589934592 g))

pub key_wide : (a b : ℕ) → 131072 ≤ a → 1125899906842624 ≡ key_of a b
unfolding key_of
key_wide a b h = sym (ap (λ (p : Bool). pick (both p (ltb b 8589934592)) (a * 8589934592 + b) 1125899906842624) (le-ltb a 131072 h))

pub key_wide_second : (a b : ℕ) → 8589934592 ≤ b → 1125899906842624 ≡ key_of a b
unfolding key_of
key_wide_second a b h = sym (ap (λ (q : Bool). pick (both (ltb a 131072) q) (a * 8589934592 + b) 1125899906842624) (le-ltb b 8589934592 h) ∙ by (ltb a 131072))
  where
    by : (p : Bool) → pick (both p false) (a * 8589934592 + b) 1125899906842624 ≡ 1125899906842624
    by true = refl
    by false = refl

-- Two pairs with the same number are the same, if one is not too large.
key_same : (a b o t : ℕ) → a < 131072 → b < 8589934592 → key_of a b ≡ key_of o t → (a ≡ o) × (b ≡ t)
key_same a b o t h g e = by (dec_lt o 131072) (dec_lt t 8589934592)
  where
    low : a * 8589934592 + b ≡ key_of o t
    low = key_low a b h g ∙ e

    by : Dec (o < 131072) → Dec (t < 8589934592) → (a ≡ o) × (b ≡ t)
    by (yes p) (yes q) = let z : a * 8589934592 + b ≡ o * 8589934592 + t = low ∙ sym (key_low o t p q) in (omega (arith, z, g, q), omega (arith, z, g, q))
    by (no p) q = let z : a * 8589934592 + b ≡ 1125899906842624 = low ∙ sym (key_wide o t (omega (arith, p))) in absurd (omega (arith, z, h, g))
    by (yes p) (no q) = let z : a * 8589934592 + b ≡ 1125899906842624 = low ∙ sym (key_wide_second o t (omega (arith, q))) in absurd (omega (arith, z, h, g))

pub entry_is : (xs bs : List ℕ) (i a b k : ℕ) → a ≡ get_or xs i 0 → b ≡ get_or bs i 0 → k ≡ key_of a b → k * 2048 + i ≡ entry_of xs bs i
unfolding entry_of
entry_is xs bs i a b k e f g = ap (λ (m : ℕ). m * 2048 + i) (g ∙ ap₂ key_of e f)

-- Cells, sorted ----------------------------------------------------------------------------------------------------------------------------

pub ordered_of : (xs bs x y : List ℕ) (room : ℕ) → Bounded xs bs → length x ≡ length xs → length xs ≤ 2 * room + 1 → Holds (entry_of xs bs) (length x) x → Sorted x room y → Ordered xs bs y
ordered_of xs bs x y room b e r f s =
    record {
      bounded = b;
      rising = s.rising (omega (arith, e, r));
      only = λ p h. below (get_or y p 0) (among_place x (get_or y p 0) (sym (s.cells (get_or y p 0)) ∙ among_at y (get_or y p 0) p h refl));
      all = λ i h. stands (entry_of xs bs i) (among_place y (entry_of xs bs i) (s.cells (entry_of xs bs i) ∙ among_at x (entry_of xs bs i) i (omega (arith, e, h)) (f.cell i (omega (arith, e, h)))));
    }
  where
    below : (v : ℕ) → Place x v → EntryOf xs bs v
    below v p = let g = p.inside in record { row = p.at; inside = omega (arith, e, g); cell = sym p.cell ∙ f.cell p.at p.inside }

    stands : (v : ℕ) → Place y v → StandsIn y v
    stands v p = record { at = p.at; inside = p.inside; cell = p.cell }

-- The first place --------------------------------------------------------------------------------------------------------------------------

-- What is known between low and high, if the cells rise.
abbrev pub Narrow : List ℕ → (v low high : ℕ) → Type 0
Narrow x v low high = Rising x → Parted x v low high

pub narrow_all : (x : List ℕ) (v : ℕ) → Narrow x v 0 (length x)
narrow_all x v r = record { less = λ i h. absurd (omega arith); more = λ i h g. absurd (omega arith) }

pub narrow_low : (x : List ℕ) (v low high i : ℕ) → Narrow x v low high → i < length x → get_or x i 0 < v → Narrow x v (i + 1) high
narrow_low x v low high i n h l r = record { less = λ j g. let z = rising_places x j i r (omega (arith, g)) h in omega (arith, z, l); more = (n r).more }

pub narrow_high : (x : List ℕ) (v low high i : ℕ) → Narrow x v low high → v ≤ get_or x i 0 → Narrow x v low i
narrow_high x v low high i n l r = record { less = (n r).less; more = λ j g h. let z = rising_places x i j r g h in omega (arith, z, l) }

pub narrow_end : (x : List ℕ) (v low high : ℕ) → Narrow x v low high → low ≤ length x → low ≡ high → FirstPlace x v low
narrow_end x v low high n h e = record { inside = h; parted = λ r. subst (Parted x v low) (sym e) (n r) }

-- Searching from the front -----------------------------------------------------------------------------------------------------------------

later : (x y : ℕ) (os ss : List ℕ) (o t j : ℕ) → Has os ss o t j → Has (x ∷ os) (y ∷ ss) o t (suc j)
later x y os ss o t j h = let g = h.inside in record { inside = omega (arith, g); owner = h.owner; step = h.step }

step_none : (i : ℕ) (os ss : List ℕ) (o t : ℕ) → ((j : ℕ) → Has os ss o t j → ⊥) → step_from i os ss o t ≡ 0
unfolding step_from
step_none i [] ss o t f = refl
step_none i (x ∷ os) [] o t f = refl
step_none i (x ∷ os) (y ∷ ss) o t f =
    ap (λ (b : Bool). pick b (suc i) (step_from (suc i) os ss o t)) (not_has (x ∷ os) (y ∷ ss) o t 0 (omega arith) (f 0))
    ∙ step_none (suc i) os ss o t (λ j h. f (suc j) (later x y os ss o t j h))

zero_not_suc : (n : ℕ) → 0 ≡ suc n → ⊥
zero_not_suc n e = omega arith

step_first : (i : ℕ) (os ss : List ℕ) (o t j : ℕ) → length ss ≡ length os → Has os ss o t j → ((m : ℕ) → m < j → Has os ss o t m → ⊥) → step_from i os ss o t ≡ suc (i + j)
unfolding step_from
step_first i [] ss o t j l h f = absurd (not-suc-le-zero h.inside)
step_first i (x ∷ os) [] o t j l h f = absurd (zero_not_suc (length os) l)
step_first i (x ∷ os) (y ∷ ss) o t zero l h f =
    let z : suc i ≡ suc (i + 0) = omega arith in
    ap (λ (b : Bool). pick b (suc i) (step_from (suc i) os ss o t)) (both_of (eqb x o) (eqb y t) (eq-eqb x o h.owner) (eq-eqb y t h.step)) ∙ z
step_first i (x ∷ os) (y ∷ ss) o t (suc j) l h f =
    let z : suc (suc i + j) ≡ suc (i + suc j) = omega arith in
    let k : length ss ≡ length os = omega (arith, l) in
    ap (λ (b : Bool). pick b (suc i) (step_from (suc i) os ss o t)) (not_has (x ∷ os) (y ∷ ss) o t 0 (omega arith) (f 0 (omega arith)))
    ∙ step_first (suc i) os ss o t j k (record { inside = le_of_suc-le-suc h.inside; owner = h.owner; step = h.step })
    (λ m g q. f (suc m) (omega (arith, g)) (later x y os ss o t m q))
    ∙ z

-- What is found among rows in order --------------------------------------------------------------------------------------------------------

module _ (os ss x : List ℕ) (d : Ordered os ss x) (o t k : ℕ) (key : k ≡ key_of o t) where
  -- The cell of a row with these numbers.
  has_entry : (j : ℕ) → Has os ss o t j → entry_of os ss j ≡ k * 2048 + j
  unfolding entry_of
  has_entry j h = ap (λ (m : ℕ). m * 2048 + j) (ap₂ key_of h.owner h.step ∙ sym key)

  -- A row is below 2,048.
  low_row : (j : ℕ) → j < length os → j < 2048
  low_row j h = let f = d.bounded.few in omega (arith, f, h)

  -- The cell c of a row.
  module _ (c : ℕ) (e : EntryOf os ss c) where
    entry_number : c ≡ key_of (get_or os e.row 0) (get_or ss e.row 0) * 2048 + e.row
    unfolding entry_of
    entry_number = e.cell

    entry_row : c % 2048 ≡ e.row
    entry_row = let n = entry_number in let l = low_row e.row e.inside in omega (arith, n, l)

    entry_has : c / 2048 ≡ k → Has os ss o t e.row
    entry_has q =
        let n = entry_number in
        let l = low_row e.row e.inside in
        let same : key_of (get_or os e.row 0) (get_or ss e.row 0) ≡ k = omega (arith, n, l, q) in
        let s = key_same (get_or os e.row 0) (get_or ss e.row 0) o t (d.bounded.first e.row e.inside) (d.bounded.second e.row e.inside) (same ∙ key) in
        record { inside = e.inside; owner = s.0; step = s.1 }

  -- The first.
  module _ (p : ℕ) (w : Parted x (k * 2048) p p) where
    behind : (j : ℕ) → Has os ss o t j → (p < length x) × (get_or x p 0 ≤ k * 2048 + j)
    behind j h = by (d.all j h.inside)
      where
        by : StandsIn x (entry_of os ss j) → (p < length x) × (get_or x p 0 ≤ k * 2048 + j)
        by s = from (dec_lt s.at p)
          where
            number : get_or x s.at 0 ≡ k * 2048 + j
            number = s.cell ∙ has_entry j h

            from : Dec (s.at < p) → (p < length x) × (get_or x p 0 ≤ k * 2048 + j)
            from (yes l) = let z = w.less s.at l in let n = number in absurd (omega (arith, z, n))
            from (no l) =
                let i = s.inside in
                let n = number in
                let z = rising_places x p s.at d.rising (omega (arith, l)) s.inside in
                (omega (arith, i, l), omega (arith, n, z))

    step_past : length x ≤ p → 0 ≡ step_from 0 os ss o t
    step_past h = sym (step_none 0 os ss o t (λ j a. let z = (behind j a).0 in omega (arith, z, h)))

    step_other : p < length x → (get_or x p 0 / 2048 ≡ k → ⊥) → 0 ≡ step_from 0 os ss o t
    step_other h n =
        sym (step_none 0 os ss o t (λ j a.
        let z = (behind j a).1 in
        let m = w.more p (omega arith) h in
        let l = low_row j a.inside in
        let q : get_or x p 0 / 2048 ≡ k = omega (arith, z, m, l) in
        n q))

    step_there : p < length x → get_or x p 0 / 2048 ≡ k → get_or x p 0 % 2048 + 1 ≡ step_from 0 os ss o t
    step_there h q = by (d.only p h)
      where
        by : EntryOf os ss (get_or x p 0) → get_or x p 0 % 2048 + 1 ≡ step_from 0 os ss o t
        by e =
            let r = entry_row (get_or x p 0) e in
            let z : get_or x p 0 % 2048 + 1 ≡ suc (0 + e.row) = omega (arith, r) in
            z ∙ sym (step_first 0 os ss o t e.row d.bounded.long (entry_has (get_or x p 0) e q) (λ m l b. let y = (behind m b).1 in omega (arith, y, q, r, l)))

  -- The last of the first i.
  module _ (i p : ℕ) (few : i ≤ 2048) (in-x : p ≤ length x) (w : Parted x (k * 2048 + i) p p) where
    before : (j : ℕ) → j < i → Has os ss o t j → (0 < p) × (k * 2048 + j ≤ get_or x (p - 1) 0)
    before j g h = by (d.all j h.inside)
      where
        by : StandsIn x (entry_of os ss j) → (0 < p) × (k * 2048 + j ≤ get_or x (p - 1) 0)
        by s = from (dec_lt s.at p)
          where
            number : get_or x s.at 0 ≡ k * 2048 + j
            number = s.cell ∙ has_entry j h

            from : Dec (s.at < p) → (0 < p) × (k * 2048 + j ≤ get_or x (p - 1) 0)
            from (no l) = let z = w.more s.at (omega (arith, l)) s.inside in let n = number in absurd (omega (arith, z, n, g))
            from (yes l) =
                let n = number in
                let z = rising_places x s.at (p - 1) d.rising (omega (arith, l)) (omega (arith, l, in-x)) in
                (omega (arith, l), omega (arith, n, z))

    module _ (ps : List ℕ) (r : Ready os ss ps) (all : length ps ≡ i) where
      last-past : p ≡ 0 → 0 ≡ front os ss ps o t i
      last-past z = sym (front_empty os ss ps o t i (omega (arith, all)) r (λ j l a. let y = (before j l a).0 in omega (arith, y, z)))

      last-other : 0 < p → (get_or x (p - 1) 0 / 2048 ≡ k → ⊥) → 0 ≡ front os ss ps o t i
      last-other h n =
          sym (front_empty os ss ps o t i (omega (arith, all)) r (λ j l a.
          let y = (before j l a).1 in
          let m = w.less (p - 1) (omega (arith, h)) in
          let q : get_or x (p - 1) 0 / 2048 ≡ k = omega (arith, y, m, few) in
          n q))

      last-there : 0 < p → get_or x (p - 1) 0 / 2048 ≡ k → suc (get_or ps (get_or x (p - 1) 0 % 2048) 0) ≡ front os ss ps o t i
      last-there h q = by (d.only (p - 1) (omega (arith, h, in-x)))
        where
          by : EntryOf os ss (get_or x (p - 1) 0) → suc (get_or ps (get_or x (p - 1) 0 % 2048) 0) ≡ front os ss ps o t i
          by e =
              let u = entry_row (get_or x (p - 1) 0) e in
              let m = w.less (p - 1) (omega (arith, h)) in
              ap (λ (j : ℕ). suc (get_or ps j 0)) u
              ∙ sym (front_last os ss ps o t i e.row (omega (arith, all)) r (omega (arith, u, m, q)) (entry_has (get_or x (p - 1) 0) e q)
              (λ j a b c. let y = (before j b c).1 in omega (arith, y, q, u, a)))

-- The answers ------------------------------------------------------------------------------------------------------------------------------

module _ (x : List ℕ) (o t k p : ℕ) (key : IsKey o t k) (w : FirstPlace x (k * 2048) p) where
  pub finds_past : length x ≤ p → FindsStep x o t 0
  unfolding FindsStep
  finds_past h os ss d = step_past os ss x d o t k key.key p (w.parted d.rising) h

  pub finds_other : p < length x → (get_or x p 0 / 2048 ≡ k → ⊥) → FindsStep x o t 0
  unfolding FindsStep
  finds_other h n os ss d = step_other os ss x d o t k key.key p (w.parted d.rising) h n

  pub finds_there : p < length x → get_or x p 0 / 2048 ≡ k → FindsStep x o t (get_or x p 0 % 2048 + 1)
  unfolding FindsStep
  finds_there h q os ss d = step_there os ss x d o t k key.key p (w.parted d.rising) h q

module _ (x ps : List ℕ) (o a k p : ℕ) (small : Small ps) (few : length ps ≤ 2048) (key : IsKey o a k) (w : FirstPlace x (k * 2048 + length ps) p) where
  ready : (os ns : List ℕ) → Ordered os ns x → length ps ≤ length os → Ready os ns ps
  ready os ns d h = record { names = d.bounded.long; inside = h; small = small }

  pub placed_past : p ≡ 0 → FindsPosition x ps o a 0
  unfolding FindsPosition
  placed_past z os ns d h =
      last-past os ns x d o a k key.key (length ps) p few w.inside (w.parted d.rising) ps (ready os ns d h) refl z ∙ front_all os ns ps o a

  pub placed_other : 0 < p → (get_or x (p - 1) 0 / 2048 ≡ k → ⊥) → FindsPosition x ps o a 0
  unfolding FindsPosition
  placed_other g n os ns d h =
      last-other os ns x d o a k key.key (length ps) p few w.inside (w.parted d.rising) ps (ready os ns d h) refl g n ∙ front_all os ns ps o a

  pub placed_there : (b : ℕ) → b ≡ get_or ps (get_or x (p - 1) 0 % 2048) 0 → 0 < p → get_or x (p - 1) 0 / 2048 ≡ k → FindsPosition x ps o a (b + 1)
  unfolding FindsPosition
  placed_there b e g q os ns d h =
      let z : b + 1 ≡ suc (get_or ps (get_or x (p - 1) 0 % 2048) 0) = omega (arith, e) in
      z ∙ last-there os ns x d o a k key.key (length ps) p few w.inside (w.parted d.rising) ps (ready os ns d h) refl g q ∙ front_all os ns ps o a

pub position_found : (x ps os ns : List ℕ) (o a r : ℕ) → FindsPosition x ps o a r → Ordered os ns x → length ps ≤ length os → r ≡ last_position (take (length ps) os) (take (length ps) ns) ps o a
unfolding FindsPosition
position_found x ps os ns o a r f d h = f os ns d h

pub partners_found : (x os ss os2 ss2 out : List ℕ) → FindsPartners x os2 ss2 out → Ordered os ss x → out ≡ partners os ss [] os2 ss2
unfolding FindsPartners
partners_found x os ss os2 ss2 out f d = f os ss d

-- A position among these is small.
small_get : (ps : List ℕ) (j : ℕ) → Small ps → get_or ps j 0 ≤ j
small_get ps j s = by (dec_lt j (length ps))
  where
    by : Dec (j < length ps) → get_or ps j 0 ≤ j
    by (yes h) = s j h
    by (no h) = subst (λ (m : ℕ). m ≤ j) (sym (past ps j (omega (arith, h)))) (omega arith)
      where
        past : (l : List ℕ) (i : ℕ) → length l ≤ i → get_or l i 0 ≡ 0
        past [] i h = refl
        past (x ∷ l) zero h = absurd (not-suc-le-zero h)
        past (x ∷ l) (suc i) h = past l i (le_of_suc-le-suc h)

pub small_found : (ps : List ℕ) (j b : ℕ) → Small ps → b ≡ get_or ps j 0 → b ≤ j
small_found ps j b s e = subst (λ (m : ℕ). m ≤ j) (sym e) (small_get ps j s)
