-- The partner of a value is the one with the same path. Assumes nothing.
use mathlib.Core.Path.{◌≡◌, refl, sym, ◌∙◌, ap, ap₂, subst}
use mathlib.Core.List.{List, [], ◌∷◌, ◌++◌}
use mathlib.Core.Bool.{Bool, true, false, false≢true}
use mathlib.Core.Logic.{◌⊎◌, inl, inr}
use Prim.Native.Nat.{ℕ, zero, suc, ◌+◌, ◌<◌, ◌≤◌}
use native.Mathlib.Omega.{arith}
use native.Mathlib.Nat.{not-suc-le-zero, le_of_suc-le-suc}
use lib.Dec.{eqb}
use lib.ListN.{length, get_or, take}
use lib.Seq.{get_or-take, take-append_seam, get_or-append_seam, take-take}
use borrow.Author.Tests.{eq-eqb, eqb-true}
use Rattle.token.specs.Find.{pick, both}
use Rattle.token.proofs.Bytes.{not_true}
use Rattle.comparing.specs.Contents.{Step, Path, same_step, same_path}
use Rattle.comparing.specs.Partners.{step_from, under, partner_of, partners}
use Rattle.comparing.proofs.Alikes.{both_true, both_of, path_flip, path_third}

-- Paths that end in a step ---------------------------------------------------------------------------------------------------------------------

both_false : (b : Bool) → both b false ≡ false
both_false true = refl
both_false false = refl

both_last : (b : Bool) → both b true ≡ both true b
both_last true = refl
both_last false = refl

both_assoc : (a b c : Bool) → both a (both b c) ≡ both (both a b) c
both_assoc true b c = refl
both_assoc false b c = refl

none_longer : (q : Path) (t : Step) → same_path [] (q ++ (t ∷ [])) ≡ false
unfolding same_path
none_longer [] t = refl
none_longer (b ∷ q) t = refl

longer_none : (p : Path) (s : Step) → same_path (p ++ (s ∷ [])) [] ≡ false
unfolding same_path
longer_none [] s = refl
longer_none (a ∷ p) s = refl

pub path_last : (p q : Path) (s t : Step) → same_path (p ++ (s ∷ [])) (q ++ (t ∷ [])) ≡ both (same_path p q) (same_step s t)
unfolding same_path
path_last [] [] s t = both_last (same_step s t)
path_last [] (b ∷ q) s t = ap (both (same_step s b)) (none_longer q t) ∙ both_false (same_step s b)
path_last (a ∷ p) [] s t = ap (both (same_step a t)) (longer_none p s) ∙ both_false (same_step a t)
path_last (a ∷ p) (b ∷ q) s t = ap (both (same_step a b)) (path_last p q s t) ∙ both_assoc (same_step a b) (same_path p q) (same_step s t)

-- Searching ------------------------------------------------------------------------------------------------------------------------------------

-- Row j has the owner and the step.
pub record Has (os ss : List ℕ) (o t j : ℕ) : Type 0 where
  pub inside : j < length os
  pub owner : get_or os j 0 ≡ o
  pub step : get_or ss j 0 ≡ t

-- A row without them.
pub not_has : (os ss : List ℕ) (o t j : ℕ) → j < length os → (Has os ss o t j → ⊥) → both (eqb (get_or os j 0) o) (eqb (get_or ss j 0) t) ≡ false
not_has os ss o t j h n =
    not_true (both (eqb (get_or os j 0) o) (eqb (get_or ss j 0) t))
    (λ e. let b = both_true (eqb (get_or os j 0) o) (eqb (get_or ss j 0) t) e in n (record { inside = h; owner = eqb-true (get_or os j 0) o b.0; step = eqb-true (get_or ss j 0) t b.1 }))

-- What was found, counted from i.
pub record Hit (i : ℕ) (os ss : List ℕ) (o t v : ℕ) : Type 0 where
  pub row : ℕ
  pub place : v ≡ i + row
  pub has : Has os ss o t row

later : (i r : ℕ) → suc i + r ≡ i + suc r
later i r = omega arith

self : (i : ℕ) → i ≡ i + 0
self i = omega arith

positive : (n : ℕ) → 0 < suc n
positive n = omega arith

up : (j n : ℕ) → j < n → suc j < suc n
up j n h = omega arith

zero_not_suc : (n : ℕ) → 0 ≡ suc n → ⊥
zero_not_suc n e = omega arith

suc_same : (m n : ℕ) → suc m ≡ suc n → m ≡ n
suc_same m n e = omega arith

found_step : (b : Bool) (i r v : ℕ) → pick b (suc i) r ≡ suc v → ((b ≡ true) × (i ≡ v)) ⊎ ((b ≡ false) × (r ≡ suc v))
found_step true i r v e = inl (refl, suc_same i v e)
found_step false i r v e = inr (refl, e)

pub found_hit : (i : ℕ) (os ss : List ℕ) (o t v : ℕ) → step_from i os ss o t ≡ suc v → Hit i os ss o t v
unfolding step_from
found_hit i [] ss o t v e = absurd (zero_not_suc v e)
found_hit i (x ∷ os) [] o t v e = absurd (zero_not_suc v e)
found_hit i (x ∷ os) (y ∷ ss) o t v e = by_cases (found_step (both (eqb x o) (eqb y t)) i (step_from (suc i) os ss o t) v e) (λ q. found_hit (suc i) os ss o t v q)
  where
    by_cases : ((both (eqb x o) (eqb y t) ≡ true) × (i ≡ v)) ⊎ ((both (eqb x o) (eqb y t) ≡ false) × (step_from (suc i) os ss o t ≡ suc v)) → (step_from (suc i) os ss o t ≡ suc v → Hit (suc i) os ss o t v)
        → Hit i (x ∷ os) (y ∷ ss) o t v
    by_cases (inl p) k =
        let b = both_true (eqb x o) (eqb y t) p.0 in
        record { row = 0; place = sym p.1 ∙ self i; has = record { inside = positive (length os); owner = eqb-true x o b.0; step = eqb-true y t b.1 } }
    by_cases (inr p) k =
        let h = k p.1 in
        record { row = suc h.row; place = h.place ∙ later i h.row; has = record { inside = up h.row (length os) h.has.inside; owner = h.has.owner; step = h.has.step } }

none_found : (b : Bool) (i r : ℕ) → pick b (suc i) r ≡ 0 → (b ≡ false) × (r ≡ 0)
none_found true i r e = absurd (zero_not_suc i (sym e))
none_found false i r e = (refl, e)

pub not_missed : (i : ℕ) (os ss : List ℕ) (o t j : ℕ) → length ss ≡ length os → Has os ss o t j → step_from i os ss o t ≡ 0 → ⊥
unfolding step_from
not_missed i [] ss o t j l h e = not-suc-le-zero h.inside
not_missed i (x ∷ os) [] o t j l h e = zero_not_suc (length os) l
not_missed i (x ∷ os) (y ∷ ss) o t zero l h e =
    false≢true (sym (none_found (both (eqb x o) (eqb y t)) i (step_from (suc i) os ss o t) e).0 ∙ both_of (eqb x o) (eqb y t) (eq-eqb x o h.owner) (eq-eqb y t h.step))
not_missed i (x ∷ os) (y ∷ ss) o t (suc j) l h e =
    not_missed (suc i) os ss o t j (suc_same (length ss) (length os) l) (record { inside = le_of_suc-le-suc h.inside; owner = h.owner; step = h.step })
    (none_found (both (eqb x o) (eqb y t)) i (step_from (suc i) os ss o t) e).1

-- The partners as a list -------------------------------------------------------------------------------------------------------------------------

snoc_length : (l : List ℕ) (a : ℕ) → length (l ++ (a ∷ [])) ≡ length l + 1
snoc_length [] a = refl
snoc_length (x ∷ l) a = let e = snoc_length l a in omega (arith, e)

partners_front : (os ss before os2 ss2 : List ℕ) → take (length before) (partners os ss before os2 ss2) ≡ before
unfolding partners
partners_front os ss before [] ts = take_whole before
  where
    take_whole : (l : List ℕ) → take (length l) l ≡ l
    take_whole [] = refl
    take_whole (x ∷ l) = ap (λ (m : List ℕ). x ∷ m) (take_whole l)
partners_front os ss before (o ∷ os2) [] = take_whole before
  where
    take_whole : (l : List ℕ) → take (length l) l ≡ l
    take_whole [] = refl
    take_whole (x ∷ l) = ap (λ (m : List ℕ). x ∷ m) (take_whole l)
partners_front os ss before (o ∷ os2) (t ∷ ss2) =
    let next = before ++ (partner_of os ss before o t ∷ []) in
    let le : length before ≤ length next = let e = snoc_length before (partner_of os ss before o t) in omega (arith, e) in
    sym (take-take (length before) (length next) (partners os ss next os2 ss2) le)
    ∙ ap (take (length before)) (partners_front os ss next os2 ss2)
    ∙ take-append_seam before (partner_of os ss before o t ∷ [])

pub partners_at : (os ss before os2 ss2 : List ℕ) (k : ℕ) → k < length os2 → length ss2 ≡ length os2
    → get_or (partners os ss before os2 ss2) (length before + k) 0 ≡ partner_of os ss (take (length before + k) (partners os ss before os2 ss2)) (get_or os2 k 0) (get_or ss2 k 0)
unfolding partners
partners_at os ss before [] ss2 k h l = absurd (not-suc-le-zero h)
partners_at os ss before (o ∷ os2) [] k h l = absurd (zero_not_suc (length os2) l)
partners_at os ss before (o ∷ os2) (t ∷ ss2) zero h l =
    let q = partner_of os ss before o t in
    let next = before ++ (q ∷ []) in
    let whole = partners os ss next os2 ss2 in
    let n : length next ≡ length before + 1 = snoc_length before q in
    let zeroth : length before + 0 ≡ length before = omega arith in
    let inside : length before < length next = omega (arith, n) in
    ap (λ (m : ℕ). get_or whole m 0) zeroth
    ∙ sym (get_or-take (length next) whole (length before) 0 inside)
    ∙ ap (λ (m : List ℕ). get_or m (length before) 0) (partners_front os ss next os2 ss2)
    ∙ get_or-append_seam before q [] 0
    ∙ ap (λ (m : List ℕ). partner_of os ss m o t) (sym (partners_front os ss before (o ∷ os2) (t ∷ ss2)))
    ∙ ap (λ (m : ℕ). partner_of os ss (take m whole) o t) (sym zeroth)
partners_at os ss before (o ∷ os2) (t ∷ ss2) (suc k) h l =
    let q = partner_of os ss before o t in
    let next = before ++ (q ∷ []) in
    let n : length next ≡ length before + 1 = snoc_length before q in
    let e : length next + k ≡ length before + suc k = omega (arith, n) in
    subst (λ (m : ℕ). get_or (partners os ss next os2 ss2) m 0 ≡ partner_of os ss (take m (partners os ss next os2 ss2)) (get_or os2 k 0) (get_or ss2 k 0)) e
    (partners_at os ss next os2 ss2 k (le_of_suc-le-suc h) (suc_same (length ss2) (length os2) l))

-- The theorem ------------------------------------------------------------------------------------------------------------------------------------

-- Row i of some values: its path is its owner's with its step behind it.
pub data Rooted (p : ℕ → Path) (st : ℕ → Step) (i : ℕ) : ℕ → Type 0 where
  of_the_object : p i ≡ [] ++ (st i ∷ []) → Rooted p st i 0
  of_row : (j : ℕ) → j < i → p i ≡ p j ++ (st i ∷ []) → Rooted p st i (suc j)

-- Numbers for the values of two objects, of paths p and p2 and steps st and st2.
pub record Numbers (os ss os2 ss2 : List ℕ) (p p2 : ℕ → Path) (st st2 : ℕ → Step) : Type 0 where
  pub long : length ss ≡ length os
  pub long2 : length ss2 ≡ length os2
  pub rooted : (i : ℕ) → i < length os → Rooted p st i (get_or os i 0)
  pub rooted2 : (i : ℕ) → i < length os2 → Rooted p2 st2 i (get_or os2 i 0)
  pub codes : (i k : ℕ) → i < length os → k < length os2 → eqb (get_or ss i 0) (get_or ss2 k 0) ≡ same_step (st i) (st2 k)
  pub apart : (i j : ℕ) → i < length os → j < length os → same_path (p i) (p j) ≡ true → i ≡ j

never_empty : (p : ℕ → Path) (st : ℕ → Step) (i o : ℕ) → Rooted p st i o → same_path [] (p i) ≡ true → ⊥
never_empty p st i o (of_the_object e) h = false≢true (sym (none_longer [] (st i)) ∙ ap (same_path []) (sym e) ∙ h)
never_empty p st i o (of_row j l e) h = false≢true (sym (none_longer (p j) (st i)) ∙ ap (same_path []) (sym e) ∙ h)

-- Two rows with the same path have owners with the same path, or the object, and the same step.
parted : (a b x y : Path) (s t : Step) → x ≡ a ++ (s ∷ []) → y ≡ b ++ (t ∷ []) → same_path x y ≡ both (same_path a b) (same_step s t)
parted a b x y s t e q = ap₂ same_path e q ∙ path_last a b s t

module _ (os ss os2 ss2 : List ℕ) (p p2 : ℕ → Path) (st st2 : ℕ → Step) (n : Numbers os ss os2 ss2 p p2 st st2) where
  abbrev P : ℕ → ℕ
  P k = get_or (partners os ss [] os2 ss2) k 0

  at : (k : ℕ) → k < length os2 → P k ≡ partner_of os ss (take k (partners os ss [] os2 ss2)) (get_or os2 k 0) (get_or ss2 k 0)
  at k h =
      let e : 0 + k ≡ k = omega arith in
      subst (λ (m : ℕ). get_or (partners os ss [] os2 ss2) m 0 ≡ partner_of os ss (take m (partners os ss [] os2 ss2)) (get_or os2 k 0) (get_or ss2 k 0)) e (partners_at os ss [] os2 ss2 k h n.long2)

  -- What holds of a row k of the second.
  pub record Partner (k : ℕ) : Type 0 where
    pub inside : (i : ℕ) → P k ≡ suc i → i < length os
    pub same : (i : ℕ) → P k ≡ suc i → same_path (p i) (p2 k) ≡ true
    pub only : (i : ℕ) → i < length os → same_path (p i) (p2 k) ≡ true → P k ≡ suc i

  -- The row that was found for the owner o and the step of row k.
  hit_row : (o k i : ℕ) → step_from 0 os ss o (get_or ss2 k 0) ≡ suc i → Has os ss o (get_or ss2 k 0) i
  hit_row o k i e =
      let h = found_hit 0 os ss o (get_or ss2 k 0) i e in
      let q : h.row ≡ i = let z = h.place in omega (arith, z) in
      subst (Has os ss o (get_or ss2 k 0)) q h.has

  step_same : (k i o : ℕ) → k < length os2 → Has os ss o (get_or ss2 k 0) i → same_step (st i) (st2 k) ≡ true
  step_same k i o h x = sym (n.codes i k x.inside h) ∙ eq-eqb (get_or ss i 0) (get_or ss2 k 0) x.step

  has_row : (k i o : ℕ) → k < length os2 → i < length os → get_or os i 0 ≡ o → same_step (st i) (st2 k) ≡ true → Has os ss o (get_or ss2 k 0) i
  has_row k i o h g e s = record { inside = g; owner = e; step = eqb-true (get_or ss i 0) (get_or ss2 k 0) (n.codes i k g h ∙ s) }

  -- What was found has the same path.
  top_same : (k i : ℕ) → k < length os2 → p2 k ≡ [] ++ (st2 k ∷ []) → Has os ss 0 (get_or ss2 k 0) i → same_path (p i) (p2 k) ≡ true
  unfolding same_path
  top_same k i h e x = by-owner (subst (Rooted p st i) x.owner (n.rooted i x.inside))
    where
      by-owner : Rooted p st i 0 → same_path (p i) (p2 k) ≡ true
      by-owner (of_the_object q) = parted [] [] (p i) (p2 k) (st i) (st2 k) q e ∙ step_same k i 0 h x

  row_same : (k j a i : ℕ) → k < length os2 → p2 k ≡ p2 j ++ (st2 k ∷ []) → same_path (p a) (p2 j) ≡ true → Has os ss (suc a) (get_or ss2 k 0) i → same_path (p i) (p2 k) ≡ true
  row_same k j a i h e s x = by-owner (subst (Rooted p st i) x.owner (n.rooted i x.inside))
    where
      by-owner : Rooted p st i (suc a) → same_path (p i) (p2 k) ≡ true
      by-owner (of_row b l q) = parted (p a) (p2 j) (p i) (p2 k) (st i) (st2 k) q e ∙ both_of (same_path (p a) (p2 j)) (same_step (st i) (st2 k)) s (step_same k i (suc a) h x)

  -- Where something with the same path is found, it is the only one.
  settled : (k i : ℕ) → ((u : ℕ) → P k ≡ suc u → (u < length os) × (same_path (p u) (p2 k) ≡ true)) → i < length os → same_path (p i) (p2 k) ≡ true → (P k ≡ 0 → ⊥) → P k ≡ suc i
  settled k i f g s z = by_number (P k) refl
    where
      by_number : (m : ℕ) → P k ≡ m → P k ≡ suc i
      by_number zero e = absurd (z e)
      by_number (suc u) e =
          let x = f u e in
          e ∙ ap suc (n.apart u i x.0 g (path_third (p2 k) (p u) (p i) (path_flip (p2 k) (p u) ∙ x.1) (path_flip (p2 k) (p i) ∙ s)))

  top_partner : (k : ℕ) → k < length os2 → p2 k ≡ [] ++ (st2 k ∷ []) → P k ≡ step_from 0 os ss 0 (get_or ss2 k 0) → Partner k
  top_partner k h e q = record {
    inside = λ i r. (hit_row 0 k i (sym q ∙ r)).inside;
    same = λ i r. top_same k i h e (hit_row 0 k i (sym q ∙ r));
    only = λ i g s. settled k i (λ u r. ((hit_row 0 k u (sym q ∙ r)).inside, top_same k u h e (hit_row 0 k u (sym q ∙ r)))) g s (λ z. missed i g s (get_or os i 0) refl (n.rooted i g) (sym q ∙ z));
  }
    where
      missed : (i : ℕ) → i < length os → same_path (p i) (p2 k) ≡ true → (o : ℕ) → get_or os i 0 ≡ o → Rooted p st i o → step_from 0 os ss 0 (get_or ss2 k 0) ≡ 0 → ⊥
      missed i g s o w (of_the_object r) z =
          not_missed 0 os ss 0 (get_or ss2 k 0) i n.long (has_row k i 0 h g w (both_true (same_path [] []) (same_step (st i) (st2 k)) (sym (parted [] [] (p i) (p2 k) (st i) (st2 k) r e) ∙ s)).1) z
      missed i g s o w (of_row a l r) z =
          never_empty p st a (get_or os a 0) (n.rooted a (omega (arith, l, g)))
          (path_flip [] (p a) ∙ (both_true (same_path (p a) []) (same_step (st i) (st2 k)) (sym (parted (p a) [] (p i) (p2 k) (st i) (st2 k) r e) ∙ s)).0)

  row_partner : (k j : ℕ) → k < length os2 → j < k → p2 k ≡ p2 j ++ (st2 k ∷ []) → P k ≡ under os ss (P j) (get_or ss2 k 0) → Partner j → Partner k
  unfolding under
  row_partner k j h l e q y = record {
    inside = λ i r. (told (P j) refl i (sym q ∙ r)).0;
    same = λ i r. (told (P j) refl i (sym q ∙ r)).1;
    only = λ i g s. settled k i (λ u r. told (P j) refl u (sym q ∙ r)) g s (λ z. missed i g s (get_or os i 0) refl (n.rooted i g) (sym q ∙ z));
  }
    where
      told : (m : ℕ) → P j ≡ m → (i : ℕ) → under os ss m (get_or ss2 k 0) ≡ suc i → (i < length os) × (same_path (p i) (p2 k) ≡ true)
      told zero w i r = absurd (zero_not_suc i r)
      told (suc a) w i r = let x = hit_row (suc a) k i r in (x.inside, row_same k j a i h e (y.same a w) x)

      missed : (i : ℕ) → i < length os → same_path (p i) (p2 k) ≡ true → (o : ℕ) → get_or os i 0 ≡ o → Rooted p st i o → under os ss (P j) (get_or ss2 k 0) ≡ 0 → ⊥
      missed i g s o w (of_the_object r) z =
          never_empty p2 st2 j (get_or os2 j 0) (n.rooted2 j (omega (arith, l, h)))
          (both_true (same_path [] (p2 j)) (same_step (st i) (st2 k)) (sym (parted [] (p2 j) (p i) (p2 k) (st i) (st2 k) r e) ∙ s)).0
      missed i g s o w (of_row a m r) z =
          let b = both_true (same_path (p a) (p2 j)) (same_step (st i) (st2 k)) (sym (parted (p a) (p2 j) (p i) (p2 k) (st i) (st2 k) r e) ∙ s) in
          not_missed 0 os ss (suc a) (get_or ss2 k 0) i n.long (has_row k i (suc a) h g w b.1) (ap (λ (v : ℕ). under os ss v (get_or ss2 k 0)) (sym (y.only a (omega (arith, m, g)) b.0)) ∙ z)

  one_row : (k : ℕ) → k < length os2 → (o : ℕ) → get_or os2 k 0 ≡ o → Rooted p2 st2 k o → ((j : ℕ) → j < k → Partner j) → Partner k
  unfolding partner_of
  one_row k h o w (of_the_object e) ih = top_partner k h e (at k h ∙ ap (λ (v : ℕ). partner_of os ss (take k (partners os ss [] os2 ss2)) v (get_or ss2 k 0)) w)
  one_row k h o w (of_row j l e) ih =
      row_partner k j h l e
      (at k h ∙ ap (λ (v : ℕ). partner_of os ss (take k (partners os ss [] os2 ss2)) v (get_or ss2 k 0)) w ∙ ap (λ (v : ℕ). under os ss v (get_or ss2 k 0)) (get_or-take k (partners os ss [] os2 ss2) j 0 l))
      (ih j l)

  each_below : (m k : ℕ) → k < m → k < length os2 → Partner k
  each_below zero k l h = absurd (not-suc-le-zero l)
  each_below (suc m) k l h = one_row k h (get_or os2 k 0) refl (n.rooted2 k h) (λ j g. each_below m j (omega (arith, g, l)) (omega (arith, g, h)))

  -- THE THEOREM: of every row the partner is the row with the same path, if there is one.
  pub partner : (k : ℕ) → k < length os2 → Partner k
  partner k h = each_below (suc k) k (omega arith) h
