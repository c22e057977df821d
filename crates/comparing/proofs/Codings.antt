-- Steps by numbers: equal numbers are equal steps. Assumes nothing.
use mathlib.Core.Path.{◌≡◌, refl, sym, ◌∙◌, ap, ap₂, subst}
use mathlib.Core.List.{List, [], ◌∷◌, ◌++◌}
use mathlib.Core.Bool.{Bool, true, false}
use Prim.Native.Nat.{ℕ, zero, suc, ◌+◌, ◌*◌, ◌<◌, ◌≤◌}
use native.Mathlib.Omega.{arith}
use native.Mathlib.Nat.{not-suc-le-zero, le_of_suc-le-suc}
use lib.Dec.{eqb}
use lib.ListN.{length, get_or}
use borrow.Author.Tests.{eq-eqb, eqb-true}
use Rattle.token.specs.Find.{both, bit}
use Rattle.meaning.specs.Syntax.{Word}
use Rattle.meaning.specs.Words.{alike}
use Rattle.meaning.specs.Resolving.{Resolved, end, resolved, how_many_values}
use Rattle.comparing.specs.Contents.{Step, same_step, how_often, step_to}
use Rattle.comparing.proofs.Steps.{steps_of, step_number, step_numbers, AllNames, names_more, Numbering}
use Rattle.comparing.proofs.Alikes.{same_truth, both_true, both_of}
use Rattle.comparing.proofs.Rooting.{Coded, steps_length}

below_two : (b : Bool) → bit b < 2
unfolding bit
below_two true = omega arith
below_two false = omega arith

parts_same : (a b l m p q : ℕ) → l < 2 → m < 2 → p < 2048 → q < 2048 → (a * 2 + l) * 2048 + p ≡ (b * 2 + m) * 2048 + q → (a ≡ b) × ((l ≡ m) × (p ≡ q))
parts_same a b l m p q h g i j e = (omega arith, (omega arith, omega arith))

whole_same : (a b l m p q : ℕ) → a ≡ b → l ≡ m → p ≡ q → (a * 2 + l) * 2048 + p ≡ (b * 2 + m) * 2048 + q
whole_same a b l m p q e f g = omega arith

-- A step with a name of which N holds, and a position below 2,048.
pub record Fit (N : Word → Type 0) (s : Step) : Type 0 where
  pub name : N s.name
  pub position : s.position < 2048

pub step_coded : (N : Word → Type 0) (c : Word → ℕ) → Numbering N c → (s t : Step) → Fit N s → Fit N t → eqb (step_number c s) (step_number c t) ≡ same_step s t
unfolding step_number same_step
step_coded N c e s t f g =
    let a = c s.name in
    let b = c t.name in
    let l = bit s.list in
    let m = bit t.list in
    let p = s.position in
    let q = t.position in
    same_truth (eqb ((a * 2 + l) * 2048 + p) ((b * 2 + m) * 2048 + q)) (both (alike s.name t.name) (both (eqb l m) (eqb p q)))
    (λ z.
    let w = parts_same a b l m p q (below_two s.list) (below_two t.list) f.position g.position (eqb-true ((a * 2 + l) * 2048 + p) ((b * 2 + m) * 2048 + q) z) in
    both_of (alike s.name t.name) (both (eqb l m) (eqb p q)) (sym (e s.name t.name f.name g.name) ∙ eq-eqb a b w.0)
    (both_of (eqb l m) (eqb p q) (eq-eqb l m w.1.0) (eq-eqb p q w.1.1)))
    (λ z.
    let w = both_true (alike s.name t.name) (both (eqb l m) (eqb p q)) z in
    let u = both_true (eqb l m) (eqb p q) w.1 in
    eq-eqb ((a * 2 + l) * 2048 + p) ((b * 2 + m) * 2048 + q)
    (whole_same a b l m p q (eqb-true a b (e s.name t.name f.name g.name ∙ w.0)) (eqb-true l m u.0) (eqb-true p q u.1)))

-- All steps to values are such, where there are at most 2,048.
pub data AllFit (N : Word → Type 0) : List Step → Type 0 where
  fit_none : AllFit N []
  fit_more : {s : Step} {ss : List Step} → Fit N s → AllFit N ss → AllFit N (s ∷ ss)

fit_append : {N : Word → Type 0} (ss ts : List Step) → AllFit N ss → AllFit N ts → AllFit N (ss ++ ts)
fit_append [] ts a b = b
fit_append (s ∷ ss) ts (fit_more x a) b = fit_more x (fit_append ss ts a b)

often_most : (t : Word) (b : List Word) → how_often t b ≤ length b
unfolding how_often
often_most t [] = omega arith
often_most t (u ∷ b) = let e = often_most t b in let g = below_two (alike t u) in omega (arith, e, g)

pub all_fit : (N : Word → Type 0) (r : Resolved) (b : List Word) → AllNames N r → length b + how_many_values r ≤ 2048 → AllFit N (steps_of r b)
unfolding steps_of how_many_values step_to
all_fit N end b w h = fit_none
all_fit N (resolved t us rest) b (names_more i j w) h =
    let e = often_most t.definition.name b in
    let near : how_often t.definition.name b < 2048 = omega (arith, e, h) in
    fit_more {s = step_to t b} (record { name = i; position = near })
    (fit_append (steps_of us []) (steps_of rest (t.definition.name ∷ b)) (all_fit N us [] j (omega (arith, h))) (all_fit N rest (t.definition.name ∷ b) w (omega (arith, h))))

pub fit_at : {N : Word → Type 0} (ss : List Step) (d : Step) (i : ℕ) → AllFit N ss → i < length ss → Fit N (get_or ss i d)
fit_at [] d i a h = absurd (not-suc-le-zero h)
fit_at (s ∷ ss) d zero (fit_more x a) h = x
fit_at (s ∷ ss) d (suc i) (fit_more x a) h = fit_at ss d i a (le_of_suc-le-suc h)

pub number_at : (c : Word → ℕ) (ss : List Step) (d : Step) (i : ℕ) → i < length ss → get_or (step_numbers c ss) i 0 ≡ step_number c (get_or ss i d)
unfolding step_numbers
number_at c [] d i h = absurd (not-suc-le-zero h)
number_at c (s ∷ ss) d zero h = refl
number_at c (s ∷ ss) d (suc i) h = number_at c ss d i (le_of_suc-le-suc h)

pub numbers_length : (c : Word → ℕ) (ss : List Step) → length (step_numbers c ss) ≡ length ss
unfolding step_numbers
numbers_length c [] = refl
numbers_length c (s ∷ ss) = ap suc (numbers_length c ss)

-- THE THEOREM: the step numbers of two objects' values are such that equal numbers are equal steps.
pub coded : (N : Word → Type 0) (c : Word → ℕ) → Numbering N c → (d : Step) (r r2 : Resolved) → AllNames N r → AllNames N r2 → how_many_values r ≤ 2048 → how_many_values r2 ≤ 2048
    → Coded d r r2 (step_numbers c (steps_of r [])) (step_numbers c (steps_of r2 []))
coded N c e d r r2 w w2 h h2 =
    let one = steps_length r [] in
    let two = steps_length r2 [] in
    let f = all_fit N r [] w (omega (arith, h)) in
    let g = all_fit N r2 [] w2 (omega (arith, h2)) in
    record {
      long = numbers_length c (steps_of r []) ∙ one;
      long2 = numbers_length c (steps_of r2 []) ∙ two;
      codes = λ i k x y.
          let u : i < length (steps_of r []) = subst (λ (n : ℕ). i < n) (sym one) x in
          let v : k < length (steps_of r2 []) = subst (λ (n : ℕ). k < n) (sym two) y in
          ap₂ eqb (number_at c (steps_of r []) d i u) (number_at c (steps_of r2 []) d k v) ∙ step_coded N c e (get_or (steps_of r []) i d) (get_or (steps_of r2 []) k d) (fit_at (steps_of r []) d i f u) (fit_at (steps_of r2 []) d k g v);
    }
