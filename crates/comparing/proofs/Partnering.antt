-- Partners found row by row. Assumes nothing.
use mathlib.Core.Path.{◌≡◌, refl, sym, ◌∙◌, ap, ap₂}
use mathlib.Core.List.{List, [], ◌∷◌, ◌++◌}
use Prim.Native.Nat.{ℕ, suc, ◌+◌, ◌-◌, ◌<◌, ◌≤◌}
use native.Mathlib.Omega.{arith}
use native.Mathlib.Numerals.{add-one}
use lib.ListN.{length, get_or, take, drop, set, length-set, drop_of_length-le}
use lib.Seq.{drop-cons, take-suc-set, take_all}
use Rattle.comparing.specs.Partners.{step_from, under, partner_of, partners}
use Rattle.comparing.specs.Ordering.{Ordered, FindsStep, FindsPartner, FindsPartners}

-- The partner of a row ------------------------------------------------------------------------------------------------------------------------

partner_top : (os ss before : List ℕ) (o t r : ℕ) → o ≡ 0 → r ≡ step_from 0 os ss 0 t → r ≡ partner_of os ss before o t
unfolding partner_of
partner_top os ss before o t r e q = q ∙ ap (λ (k : ℕ). partner_of os ss before k t) (sym e)

partner_none : (os ss before : List ℕ) (o t p : ℕ) → 1 ≤ o → p ≡ get_or before (o - 1) 0 → p ≡ 0 → 0 ≡ partner_of os ss before o t
unfolding partner_of under
partner_none os ss before o t p h e q =
    let s : suc (o - 1) ≡ o = omega arith in
    ap (λ (k : ℕ). under os ss k t) (sym q ∙ e) ∙ ap (λ (k : ℕ). partner_of os ss before k t) s

partner_under : (os ss before : List ℕ) (o t p r : ℕ) → 1 ≤ o → p ≡ get_or before (o - 1) 0 → (p ≡ 0 → ⊥) → r ≡ step_from 0 os ss p t → r ≡ partner_of os ss before o t
unfolding partner_of under
partner_under os ss before o t p r h e n q =
    let s : suc (o - 1) ≡ o = omega arith in
    let z : suc (p - 1) ≡ p = omega (arith, n) in
    q ∙ ap (λ (k : ℕ). step_from 0 os ss k t) (sym z) ∙ ap (λ (k : ℕ). under os ss k t) (z ∙ e) ∙ ap (λ (k : ℕ). partner_of os ss before k t) s

-- All partners --------------------------------------------------------------------------------------------------------------------------------

partners_next : (os ss os2 ss2 out : List ℕ) (i p : ℕ) → i < length os2 → i < length ss2 → i < length out → p ≡ partner_of os ss (take i out) (get_or os2 i 0) (get_or ss2 i 0)
    → partners os ss (take (i + 1) (set out i p)) (drop (i + 1) os2) (drop (i + 1) ss2) ≡ partners os ss (take i out) (drop i os2) (drop i ss2)
unfolding partners
partners_next os ss os2 ss2 out i p h g l e =
    ap (λ (k : List ℕ). partners os ss k (drop (i + 1) os2) (drop (i + 1) ss2)) (ap (λ (k : ℕ). take k (set out i p)) (add-one i) ∙ take-suc-set out i p l ∙ ap (λ (k : ℕ). take i out ++ (k ∷ [])) e)
    ∙ ap (λ (k : ℕ). partners os ss (take i out ++ (partner_of os ss (take i out) (get_or os2 i 0) (get_or ss2 i 0) ∷ [])) (drop k os2) (drop k ss2)) (add-one i)
    ∙ sym (ap₂ (λ (x y : List ℕ). partners os ss (take i out) x y) (drop-cons os2 i 0 h) (drop-cons ss2 i 0 g))

partners_end : (os ss os2 ss2 out : List ℕ) (i : ℕ) → length out ≤ i → length os2 ≤ i → partners os ss (take i out) (drop i os2) (drop i ss2) ≡ out
unfolding partners
partners_end os ss os2 ss2 out i h g = ap (λ (x : List ℕ). partners os ss (take i out) x (drop i ss2)) (drop_of_length-le os2 g) ∙ take_all i out h

-- The state of the loop before row i, where `out` has the partners of the rows before.
pub record Filling (x os2 ss2 out : List ℕ) (i : ℕ) : Type 0 where
  pub steps2 : length ss2 ≡ length os2
  pub room : length out ≡ length os2
  pub inside : i ≤ length os2
  pub left : (os ss : List ℕ) → Ordered os ss x → partners os ss (take i out) (drop i os2) (drop i ss2) ≡ partners os ss [] os2 ss2

pub filling_start : (x os2 ss2 out : List ℕ) → length ss2 ≡ length os2 → length out ≡ length os2 → Filling x os2 ss2 out 0
filling_start x os2 ss2 out b c = record { steps2 = b; room = c; inside = omega arith; left = λ os ss d. refl }

pub filling_next : (x os2 ss2 out : List ℕ) (i p : ℕ) → Filling x os2 ss2 out i → i < length out → FindsPartner x (take i out) (get_or os2 i 0) (get_or ss2 i 0) p
    → Filling x os2 ss2 (set out i p) (i + 1)
unfolding FindsPartner
filling_next x os2 ss2 out i p f h e =
    let a = f.room in
    let b = f.steps2 in
    record {
      steps2 = b;
      room = length-set out i p ∙ a;
      inside = omega (arith, a, h);
      left = λ os ss d. partners_next os ss os2 ss2 out i p (omega (arith, a, h)) (omega (arith, a, b, h)) h (e os ss d) ∙ f.left os ss d;
    }

pub filling_end : (x os2 ss2 out : List ℕ) (i : ℕ) → Filling x os2 ss2 out i → length out ≤ i → FindsPartners x os2 ss2 out
unfolding FindsPartners
filling_end x os2 ss2 out i f h os ss d = let a = f.room in sym (partners_end os ss os2 ss2 out i h (omega (arith, a, h))) ∙ f.left os ss d

-- The partner, by what is found.
module _ (x before : List ℕ) (o t : ℕ) where
  pub found_top : (r : ℕ) → o ≡ 0 → FindsStep x 0 t r → FindsPartner x before o t r
  unfolding FindsStep FindsPartner
  found_top r e q os ss d = partner_top os ss before o t r e (q os ss d)

  pub found_none : (p : ℕ) → 1 ≤ o → p ≡ get_or before (o - 1) 0 → p ≡ 0 → FindsPartner x before o t 0
  unfolding FindsPartner
  found_none p h e q os ss d = partner_none os ss before o t p h e q

  pub found_under : (p r : ℕ) → 1 ≤ o → p ≡ get_or before (o - 1) 0 → (p ≡ 0 → ⊥) → FindsStep x p t r → FindsPartner x before o t r
  unfolding FindsStep FindsPartner
  found_under p r h e n q os ss d = partner_under os ss before o t p r h e n (q os ss d)
