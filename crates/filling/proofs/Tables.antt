-- The laws of tables that rows are put into. Assumes nothing.
use mathlib.Core.Path.{◌≡◌, refl, sym, ◌∙◌, ap, ap₂, subst}
use mathlib.Core.List.{List, [], ◌∷◌, ◌++◌, append-nil}
use Prim.Native.Nat.{ℕ, ◌+◌, ◌-◌, ◌*◌, ◌≤◌, min}
use native.Mathlib.Omega.{arith}
use native.Mathlib.Decide.{dec_le}
use lib.ListN.{length, length-append}
use lib.Seq.{sets, length-sets}
use Rattle.rows.proofs.Stores.{sets_append, sets_out}
use Rattle.layout.specs.Kept.{join}
use Rattle.layout.proofs.Lengths.{join_append}
use Rattle.filling.specs.Tables.{Wide, Wrote}

-- Cells one by one.
infixr 20 ◌⸬◌
pub ◌⸬◌ : {x y : ℕ} {xs ys : List ℕ} → x ≡ y → xs ≡ ys → ◌≡◌ {A = List ℕ} (x ∷ xs) (y ∷ ys)
p ⸬ q = ap₂ ◌∷◌ p q

pub wide_then : (w : ℕ) (xs ys : List (List ℕ)) → Wide w xs → Wide w ys → Wide w (xs ++ ys)
wide_then w xs ys a b =
    let p : length (join (xs ++ ys)) ≡ length (join xs ++ join ys) = ap length (join_append xs ys) in
    let q = length-append (join xs) (join ys) in
    let g : length (join (xs ++ ys)) ≡ (length xs + length ys) * w = omega (arith, p, q, a, b) in
    g ∙ ap (λ (k : ℕ). k * w) (sym (length-append xs ys))

pub wide_one : (w : ℕ) (r : List ℕ) → length r ≡ w → Wide w (r ∷ [])
unfolding join
wide_one w r e = let p : length (r ++ []) ≡ length r = ap length (append-nil r) in omega (arith, p, e)

pub rows_append : (w : ℕ) (l : List ℕ) (n : ℕ) (xs ys : List (List ℕ)) → Wide w xs
    → sets l (n * w) (join (xs ++ ys)) ≡ sets (sets l (n * w) (join xs)) ((n + length xs) * w) (join ys)
rows_append w l n xs ys h =
    let e : n * w + length (join xs) ≡ (n + length xs) * w = omega (arith, h) in
    ap (sets l (n * w)) (join_append xs ys)
    ∙ sets_append l (n * w) (join xs) (join ys)
    ∙ ap (λ (k : ℕ). sets (sets l (n * w) (join xs)) k (join ys)) e

pub wrote_none : {w : ℕ} {l : List ℕ} {n : ℕ} → Wrote w l n [] l n
unfolding join
wrote_none {w} {l} {n} = record { size = refl; wide = omega arith; count = omega arith; table = λ h. refl }

-- Rows behind rows, where the rows to come depend on the number of the first.
pub wrote_on : {w : ℕ} {l : List ℕ} {n : ℕ} {xs : List (List ℕ)} {l₁ l₂ : List ℕ} {n₁ n₂ : ℕ} (v : ℕ → List (List ℕ)) → ((k : ℕ) → Wide w (v k))
    → Wrote w l n xs l₁ n₁ → Wrote w l₁ n₁ (v n₁) l₂ n₂ → Wrote w l n (xs ++ v (n + length xs)) l₂ n₂
wrote_on {w} {l} {n} {xs} {l₁} {l₂} {n₁} {n₂} v k u z =
    let a = length-append xs (v (n + length xs)) in
    record {
      size = z.size ∙ u.size;
      wide = wide_then w xs (v (n + length xs)) u.wide (k (n + length xs));
      count = counted (dec_le (n + length xs) 65536);
      table = λ h.
          let q : n₁ ≡ n + length xs = omega (arith, u.count, h, a) in
          let y : Wrote w l₁ (n + length xs) (v (n + length xs)) l₂ n₂ = subst (λ (i : ℕ). Wrote w l₁ i (v i) l₂ n₂) q z in
          y.table (omega (arith, h, a))
          ∙ ap (λ (t : List ℕ). sets t ((n + length xs) * w) (join (v (n + length xs)))) (u.table (omega (arith, h, a)))
          ∙ sym (rows_append w l n xs (v (n + length xs)) u.wide);
    }
  where
    counted : Dec (n + length xs ≤ 65536) → n₂ ≡ n + min (length (xs ++ v (n + length xs))) (65536 - n)
    counted (yes h) =
        let q : n₁ ≡ n + length xs = omega (arith, u.count, h) in
        let y : Wrote w l₁ (n + length xs) (v (n + length xs)) l₂ n₂ = subst (λ (i : ℕ). Wrote w l₁ i (v i) l₂ n₂) q z in
        omega (arith, y.count, h, length-append xs (v (n + length xs)))
    counted (no h) = omega (arith, u.count, z.count, h, length-append xs (v (n + length xs)))

pub wrote_then : {w : ℕ} {l : List ℕ} {n : ℕ} {xs ys : List (List ℕ)} {l₁ l₂ : List ℕ} {n₁ n₂ : ℕ} → Wrote w l n xs l₁ n₁ → Wrote w l₁ n₁ ys l₂ n₂
    → Wrote w l n (xs ++ ys) l₂ n₂
wrote_then {ys} u z = wrote_on (λ _. ys) (λ _. z.wide) u z

-- One row.
pub wrote_row : {w : ℕ} {l : List ℕ} {n : ℕ} {r : List ℕ} {l' : List ℕ} {n' : ℕ} → length r ≡ w → l' ≡ sets l (n * w) r → n' ≡ n + min 1 (65536 - n)
    → Wrote w l n (r ∷ []) l' n'
unfolding join
wrote_row {w} {l} {n} {r} e p q =
    record {
      size = ap length p ∙ length-sets l (n * w) r;
      wide = wide_one w r e;
      count = q;
      table = λ h. p ∙ ap (sets l (n * w)) (sym (append-nil r));
    }

-- A row's place, where it is past the end.
pub sets_start : (l : List ℕ) (i a : ℕ) (vs : List ℕ) → a ≡ min (length l) i → sets l a vs ≡ sets l i vs
sets_start l i a vs e = go (dec_le i (length l))
  where
    go : Dec (i ≤ length l) → sets l a vs ≡ sets l i vs
    go (yes h) = let q : a ≡ i = omega (arith, e, h) in ap (λ (k : ℕ). sets l k vs) q
    go (no h) = sets_out l a vs (omega (arith, e, h)) ∙ sym (sets_out l i vs (omega (arith, e, h)))
