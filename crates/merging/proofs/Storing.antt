-- The first part of each row, by the cells that were stored. Assumes nothing.
use mathlib.Core.Path.{◌≡◌, refl, sym, ◌∙◌, ap}
use mathlib.Core.List.{List, [], ◌∷◌}
use Prim.Native.Nat.{ℕ, zero, suc, ◌+◌, ◌≤◌, ◌<◌, min}
use native.Mathlib.Omega.{arith}
use lib.ListN.{length, get_or, set, replicate, length-set, length-replicate}
use lib.Seq.{sets, get_or-set_same, get_or-set_other}
use Rattle.merging.specs.Parts.{first_row, first_rows, FirstRows}

sets_before : (vs l : List ℕ) (i k : ℕ) → k < i → get_or (sets l i vs) k 0 ≡ get_or l k 0
sets_before [] l i k h = refl
sets_before (v ∷ vs) l i k h = sets_before vs (set l i v) (suc i) k (omega arith) ∙ get_or-set_other l i k v 0 (λ e. omega arith)

first_cell : (col : ℕ) (s p : List ℕ) (m j : ℕ) (l : List ℕ) (k : ℕ) → k < m → j + k < length l → get_or (sets l j (first_rows col s p m j)) (j + k) 0 ≡ first_row col s p (j + k)
unfolding first_rows
first_cell col s p zero j l k h g = absurd (omega arith)
first_cell col s p (suc m) j l zero h g =
    let e : j + 0 ≡ j = omega arith in
    ap (λ (i : ℕ). get_or (sets (set l j (first_row col s p j)) (suc j) (first_rows col s p m (suc j))) i 0) e
    ∙ sets_before (first_rows col s p m (suc j)) (set l j (first_row col s p j)) (suc j) j (omega arith)
    ∙ get_or-set_same l j (first_row col s p j) 0 (omega arith) ∙ ap (first_row col s p) (sym e)
first_cell col s p (suc m) j l (suc k) h g =
    let e : j + suc k ≡ suc j + k = omega arith in
    let n = length-set l j (first_row col s p j) in
    ap (λ (i : ℕ). get_or (sets (set l j (first_row col s p j)) (suc j) (first_rows col s p m (suc j))) i 0) e
    ∙ first_cell col s p m (suc j) (set l j (first_row col s p j)) k (omega arith) (omega arith) ∙ ap (first_row col s p) (sym e)

pub cells_of : (col : ℕ) (s p x : List ℕ) (l n : ℕ) → l ≡ min n 513 → FirstRows col s p l x → (j : ℕ) → j < min n 513 → get_or x j 0 ≡ first_row col s p j
cells_of col s p x l n e h j g =
    let r = length-replicate {A = ℕ} 513 0 in
    let z : 0 + j ≡ j = omega arith in
    ap (λ (v : List ℕ). get_or v j 0) (h (omega (arith, e)))
    ∙ ap (λ (i : ℕ). get_or (sets (replicate 513 0) 0 (first_rows col s p l 0)) i 0) (sym z)
    ∙ first_cell col s p l 0 (replicate 513 0) j (omega (arith, e, g)) (omega (arith, r, g)) ∙ ap (first_row col s p) z
