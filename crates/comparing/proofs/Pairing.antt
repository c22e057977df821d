-- Records of a pair of objects, gathered row by row. Assumes nothing.
use mathlib.Core.Path.{◌≡◌, refl, sym, ◌∙◌, ap, subst}
use mathlib.Core.List.{List, [], ◌∷◌, ◌++◌}
use mathlib.Core.Bool.{Bool, true, false}
use Prim.Native.Nat.{ℕ, suc, ◌+◌, ◌-◌, ◌<◌, ◌≤◌}
use native.Mathlib.Omega.{arith}
use lib.ListN.{get_or}
use borrow.Author.Tests.{eq-eqb, ne_eqb}
use Rattle.token.specs.Find.{pick}
use Rattle.token.specs.Words.{same}
use Rattle.comparing.specs.Keys.{row_key}
use Rattle.comparing.specs.declared.Difference.{Difference}
use Rattle.comparing.specs.declared.Found.{Found}
use Rattle.comparing.specs.Gathered.{Told, ToldMore, ToldAlso, first_record, first_records}

append_none : (l : List Difference) → l ++ [] ≡ l
append_none [] = refl
append_none (x ∷ l) = ap (λ (m : List Difference). x ∷ m) (append_none l)

append_assoc : (a b c : List Difference) → (a ++ b) ++ c ≡ a ++ (b ++ c)
append_assoc [] b c = refl
append_assoc (x ∷ a) b c = ap (λ (m : List Difference). x ∷ m) (append_assoc a b c)

pub also_none : (f : Found) → ToldAlso f [] f
also_none f ds t = subst (λ (l : List Difference). Told l f) (sym (append_none ds)) t

pub also_then : (f g h : Found) (es ts : List Difference) → ToldAlso f es g → ToldAlso g ts h → ToldAlso f (es ++ ts) h
also_then f g h es ts a b ds t = subst (λ (l : List Difference). Told l h) (append_assoc ds es ts) (b (ds ++ es) (a ds t))

module _ (s d v s2 d2 v2 : List ℕ) (x y : ℕ) where
  abbrev one : ℕ → ℕ → List Difference
  one b r = first_record s d v s2 d2 v2 x y b r

  pub also_alone : (f g : Found) (b r : ℕ) → b ≡ 0 → ToldMore f (record { first_object = x; second_object = y; first_value = r + 1; second_value = 0 }) g → ToldAlso f (one b r) g
  unfolding first_record
  also_alone f g b r e m ds t =
      subst (λ (l : List Difference). Told (ds ++ l) g)
      (sym (ap (λ (c : Bool). pick c (record { first_object = x; second_object = y; first_value = r + 1; second_value = 0 } ∷ [])
      (pick (same (row_key s d v r) (row_key s2 d2 v2 (b - 1))) [] (record { first_object = x; second_object = y; first_value = r + 1; second_value = b } ∷ []))) (eq-eqb b 0 e))) (m ds t)

  partnered : (b r : ℕ) (c : Bool) → (b ≡ 0 → ⊥) → c ≡ same (row_key s d v r) (row_key s2 d2 v2 (b - 1))
      → one b r ≡ pick c [] (record { first_object = x; second_object = y; first_value = r + 1; second_value = b } ∷ [])
  unfolding first_record
  partnered b r c n e =
      ap (λ (z : Bool). pick z (record { first_object = x; second_object = y; first_value = r + 1; second_value = 0 } ∷ [])
      (pick (same (row_key s d v r) (row_key s2 d2 v2 (b - 1))) [] (record { first_object = x; second_object = y; first_value = r + 1; second_value = b } ∷ []))) (ne_eqb b 0 n)
      ∙ ap (λ (z : Bool). pick z [] (record { first_object = x; second_object = y; first_value = r + 1; second_value = b } ∷ [])) (sym e)

  pub also_same : (f : Found) (b r : ℕ) (c : Bool) → (b ≡ 0 → ⊥) → c ≡ same (row_key s d v r) (row_key s2 d2 v2 (b - 1)) → c ≡ true → ToldAlso f (one b r) f
  also_same f b r c n e q ds t =
      subst (λ (l : List Difference). Told (ds ++ l) f)
      (sym (partnered b r c n e ∙ ap (λ (z : Bool). pick z [] (record { first_object = x; second_object = y; first_value = r + 1; second_value = b } ∷ [])) q)) (also_none f ds t)

  pub also_both : (f g : Found) (b r : ℕ) (c : Bool) → (b ≡ 0 → ⊥) → c ≡ same (row_key s d v r) (row_key s2 d2 v2 (b - 1)) → c ≡ false
      → ToldMore f (record { first_object = x; second_object = y; first_value = r + 1; second_value = b }) g → ToldAlso f (one b r) g
  also_both f g b r c n e q m ds t =
      subst (λ (l : List Difference). Told (ds ++ l) g)
      (sym (partnered b r c n e ∙ ap (λ (z : Bool). pick z [] (record { first_object = x; second_object = y; first_value = r + 1; second_value = b } ∷ [])) q)) (m ds t)

  -- The rows from the k-th on.
  abbrev rest : List ℕ → ℕ → ℕ → ℕ → List Difference
  rest back n r k = first_records s d v s2 d2 v2 back x y (n - k) (r + k) k

  -- What is left to be gathered, gathered, is all.
  pub record Gathering (back : List ℕ) (n r : ℕ) (f : Found) (all : Found) (k : ℕ) : Type 0 where
    pub inside : k ≤ n
    pub few : r + n ≤ 65536
    pub left : (g : Found) → ToldAlso all (rest back n r k) g → ToldAlso f (first_records s d v s2 d2 v2 back x y n r 0) g

  pub gathering_start : (back : List ℕ) (n r : ℕ) (f : Found) → r + n ≤ 65536 → Gathering back n r f f 0
  gathering_start back n r f h =
      let a : n - 0 ≡ n = omega arith in
      let b : r + 0 ≡ r = omega arith in
      record { inside = omega arith; few = h; left = λ g t. subst (λ (l : List Difference). ToldAlso f l g) (λ i. first_records s d v s2 d2 v2 back x y (a i) (b i) 0) t }

  pub gathering_next : (back : List ℕ) (n r : ℕ) (f all next : Found) (k b : ℕ) → Gathering back n r f all k → k < n → b ≡ get_or back k 0 → ToldAlso all (one b (r + k)) next → Gathering back n r f next (k + 1)
  unfolding first_records
  gathering_next back n r f all next k b w h e t =
      let m : n - k ≡ suc (n - (k + 1)) = omega (arith, h) in
      let p : (r + k) + 1 ≡ r + (k + 1) = omega arith in
      let q : one b (r + k) ++ rest back n r (k + 1) ≡ rest back n r k =
      ap (λ (z : ℕ). one z (r + k) ++ rest back n r (k + 1)) e
      ∙ ap (λ (z : ℕ). one (get_or back k 0) (r + k) ++ first_records s d v s2 d2 v2 back x y (n - (k + 1)) z (k + 1)) (sym p)
      ∙ ap (λ (z : ℕ). first_records s d v s2 d2 v2 back x y z (r + k) k) (sym m) in
      record {
        inside = omega (arith, h);
        few = w.few;
        left = λ g a. w.left g (subst (λ (l : List Difference). ToldAlso all l g) q (also_then all next g (one b (r + k)) (rest back n r (k + 1)) t a));
      }

  pub gathering_end : (back : List ℕ) (n r : ℕ) (f all : Found) (k : ℕ) → Gathering back n r f all k → n ≤ k → ToldAlso f (first_records s d v s2 d2 v2 back x y n r 0) all
  unfolding first_records
  gathering_end back n r f all k w h =
      let m : 0 ≡ n - k = omega (arith, h) in
      w.left all (subst (λ (z : ℕ). ToldAlso all (first_records s d v s2 d2 v2 back x y z (r + k) k) all) m (also_none all))
