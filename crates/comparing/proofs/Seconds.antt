-- Records of a pair's second object, gathered row by row. Assumes nothing.
use mathlib.Core.Path.{◌≡◌, sym, ◌∙◌, ap, subst}
use mathlib.Core.List.{List, [], ◌∷◌, ◌++◌}
use mathlib.Core.Bool.{Bool}
use Prim.Native.Nat.{ℕ, ◌+◌, ◌<◌, ◌≤◌}
use native.Mathlib.Omega.{arith}
use native.Mathlib.Numerals.{add-one}
use lib.ListN.{length, get_or, drop, drop_of_length-le}
use lib.Seq.{drop-cons}
use borrow.Author.Tests.{eq-eqb, ne_eqb}
use Rattle.token.specs.Find.{pick}
use Rattle.comparing.specs.declared.Difference.{Difference}
use Rattle.comparing.specs.declared.Found.{Found}
use Rattle.comparing.specs.Gathered.{Told, ToldMore, ToldAlso, second_record, second_records}
use Rattle.comparing.proofs.Pairing.{also_none, also_then}

module _ (x y : ℕ) where
  abbrev added : ℕ → Difference
  added r = record { first_object = x; second_object = y; first_value = 0; second_value = r + 1 }

  pub second_alone : (f g : Found) (p r : ℕ) → p ≡ 0 → ToldMore f (added r) g → ToldAlso f (second_record x y p r) g
  unfolding second_record
  second_alone f g p r e m ds t = subst (λ (l : List Difference). Told (ds ++ l) g) (sym (ap (λ (c : Bool). pick c (added r ∷ []) []) (eq-eqb p 0 e))) (m ds t)

  pub second_met : (f : Found) (p r : ℕ) → (p ≡ 0 → ⊥) → ToldAlso f (second_record x y p r) f
  unfolding second_record
  second_met f p r e ds t = subst (λ (l : List Difference). Told (ds ++ l) f) (sym (ap (λ (c : Bool). pick c (added r ∷ []) []) (ne_eqb p 0 e))) (also_none f ds t)

  -- What is left to be gathered, gathered, is all.
  pub record Seconding (ps : List ℕ) (r : ℕ) (f all : Found) (k : ℕ) : Type 0 where
    pub inside : k ≤ length ps
    pub few : r + length ps ≤ 65536
    pub left : (g : Found) → ToldAlso all (second_records x y (drop k ps) (r + k)) g → ToldAlso f (second_records x y ps r) g

  pub seconding_start : (ps : List ℕ) (r : ℕ) (f : Found) → r + length ps ≤ 65536 → Seconding ps r f f 0
  seconding_start ps r f h =
      let b : r + 0 ≡ r = omega arith in
      record { inside = omega arith; few = h; left = λ g t. subst (λ (n : ℕ). ToldAlso f (second_records x y ps n) g) b t }

  pub seconding_next : (ps : List ℕ) (r : ℕ) (f all next : Found) (k p : ℕ) → Seconding ps r f all k → k < length ps → p ≡ get_or ps k 0 → ToldAlso all (second_record x y p (r + k)) next
      → Seconding ps r f next (k + 1)
  unfolding second_records
  seconding_next ps r f all next k p w h e t =
      let q : r + (k + 1) ≡ (r + k) + 1 = omega arith in
      let m : second_record x y p (r + k) ++ second_records x y (drop (k + 1) ps) (r + (k + 1)) ≡ second_records x y (drop k ps) (r + k) =
      ap (λ (z : ℕ). second_record x y z (r + k) ++ second_records x y (drop (k + 1) ps) (r + (k + 1))) e
      ∙ (λ i. second_record x y (get_or ps k 0) (r + k) ++ second_records x y (drop (add-one k i) ps) (q i))
      ∙ ap (λ (l : List ℕ). second_records x y l (r + k)) (sym (drop-cons ps k 0 h)) in
      record {
        inside = omega (arith, h);
        few = w.few;
        left = λ g a. w.left g (subst (λ (l : List Difference). ToldAlso all l g) m (also_then all next g (second_record x y p (r + k)) (second_records x y (drop (k + 1) ps) (r + (k + 1))) t a));
      }

  pub seconding_end : (ps : List ℕ) (r : ℕ) (f all : Found) (k : ℕ) → Seconding ps r f all k → length ps ≤ k → ToldAlso f (second_records x y ps r) all
  unfolding second_records
  seconding_end ps r f all k w h =
      w.left all (subst (λ (l : List ℕ). ToldAlso all (second_records x y l (r + k)) all) (sym (drop_of_length-le ps {i = k} h)) (also_none all))
