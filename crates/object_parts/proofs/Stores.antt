-- A row that is put after those behind it. Assumes nothing.
use mathlib.Core.Path.{◌≡◌, refl, sym, ◌∙◌, ap, subst}
use mathlib.Core.List.{List, [], ◌∷◌}
use Prim.Native.Nat.{ℕ, zero, suc, ◌+◌, ◌-◌, ◌*◌, ◌≤◌, ◌<◌, min}
use native.Mathlib.Omega.{arith}
use native.Mathlib.Decide.{dec_le}
use lib.ListN.{length, set}
use lib.Seq.{sets, length-sets}
use Rattle.layout.specs.Kept.{join}
use Rattle.rows.proofs.Stores.{sets_append}
use Rattle.filling.specs.Tables.{Wide, Wrote}
use Rattle.filling.proofs.Tables.{wide_one, wide_then}

set_swap : (l : List ℕ) (i j v w : ℕ) → i < j → set (set l i v) j w ≡ set (set l j w) i v
set_swap [] i j v w h = refl
set_swap (x ∷ l) zero zero v w h = absurd (omega arith)
set_swap (x ∷ l) zero (suc j) v w h = refl
set_swap (x ∷ l) (suc i) zero v w h = absurd (omega arith)
set_swap (x ∷ l) (suc i) (suc j) v w h = ap (x ∷◌) (set_swap l i j v w (omega arith))

set_sets : (l : List ℕ) (i j v : ℕ) (ys : List ℕ) → i < j → sets (set l i v) j ys ≡ set (sets l j ys) i v
set_sets l i j v [] h = refl
set_sets l i j v (y ∷ ys) h = ap (λ (t : List ℕ). sets t (suc j) ys) (set_swap l i j v y h) ∙ set_sets (set l j y) i (suc j) v ys (omega arith)

sets_swap : (l : List ℕ) (i j : ℕ) (xs ys : List ℕ) → i + length xs ≤ j → sets (sets l j ys) i xs ≡ sets (sets l i xs) j ys
sets_swap l i j [] ys h = refl
sets_swap l i j (x ∷ xs) ys h =
    ap (λ (t : List ℕ). sets t (suc i) xs) (sym (set_sets l i j x ys (omega arith))) ∙ sets_swap (set l i x) (suc i) j xs ys (omega arith)

-- The row n, put when n₁ is counted, before those that are already behind it. Its last cell is the number of the row after them.
pub wrote_around : {l l₁ l₂ : List ℕ} {n k n₁ : ℕ} (a b c d e f : ℕ) (w : ℕ → List (List ℕ)) → ((k : ℕ) → Wide 7 (w k)) → k ≡ n + min 1 (65536 - n)
    → Wrote 7 l k (w k) l₁ n₁ → l₂ ≡ sets l₁ (n * 7) (a ∷ b ∷ c ∷ d ∷ e ∷ f ∷ n₁ ∷ [])
    → Wrote 7 l n ((a ∷ b ∷ c ∷ d ∷ e ∷ f ∷ (suc n + length (w (suc n))) ∷ []) ∷ w (suc n)) l₂ n₁
unfolding join
wrote_around {l} {l₁} {l₂} {n} {k} {n₁} a b c d e f w v p u q =
    let r = a ∷ b ∷ c ∷ d ∷ e ∷ f ∷ (suc n + length (w (suc n))) ∷ [] in
    record {
      size = ap length q ∙ length-sets l₁ (n * 7) (a ∷ b ∷ c ∷ d ∷ e ∷ f ∷ n₁ ∷ []) ∙ u.size;
      wide = wide_then 7 (r ∷ []) (w (suc n)) (wide_one 7 r refl) (v (suc n));
      count = counted (dec_le 65536 n);
      table = λ h.
          let i : k ≡ suc n = omega (arith, p, h) in
          let z : Wrote 7 l (suc n) (w (suc n)) l₁ n₁ = subst (λ (i : ℕ). Wrote 7 l i (w i) l₁ n₁) i u in
          let o : n₁ ≡ suc n + length (w (suc n)) = omega (arith, z.count, h) in
          let g : suc n * 7 ≡ n * 7 + 7 = omega arith in
          q
          ∙ ap (λ (m : ℕ). sets l₁ (n * 7) (a ∷ b ∷ c ∷ d ∷ e ∷ f ∷ m ∷ [])) o
          ∙ ap (λ (t : List ℕ). sets t (n * 7) r) (z.table (omega (arith, h)) ∙ ap (λ (m : ℕ). sets l m (join (w (suc n)))) g)
          ∙ sets_swap l (n * 7) (n * 7 + 7) r (join (w (suc n))) (omega arith)
          ∙ sym (sets_append l (n * 7) r (join (w (suc n))));
    }
  where
    counted : Dec (65536 ≤ n) → n₁ ≡ n + min (suc (length (w (suc n)))) (65536 - n)
    counted (yes h) = omega (arith, p, u.count, h)
    counted (no h) =
        let i : k ≡ suc n = omega (arith, p, h) in
        let z : Wrote 7 l (suc n) (w (suc n)) l₁ n₁ = subst (λ (i : ℕ). Wrote 7 l i (w i) l₁ n₁) i u in
        omega (arith, z.count, h)
