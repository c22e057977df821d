-- The cells of rows in a kept table. Assumes nothing.
use mathlib.Core.Path.{◌≡◌, refl, ◌∙◌, ap}
use mathlib.Core.List.{List, [], ◌∷◌, ◌++◌}
use Prim.Native.Nat.{ℕ, zero, suc, ◌+◌, ◌*◌, ◌≤◌, ◌<◌}
use native.Mathlib.Omega.{arith}
use native.Mathlib.Nat.{mul-le-mul_right}
use lib.ListN.{length, get_or, set, replicate, length-append, length-set, length-replicate, get_or-append}
use lib.Seq.{sets, get_or-set_same, get_or-set_other, get_or-append-add}
use Rattle.layout.specs.Kept.{Wide, join, kept}
use Rattle.layout.proofs.Lengths.{wide_front, wide_back, length_join}

-- What stands before a run of stores, and what the run stores.
sets_before : (vs l : List ℕ) (i k : ℕ) → k < i → get_or (sets l i vs) k 0 ≡ get_or l k 0
sets_before [] l i k h = refl
sets_before (v ∷ vs) l i k h = sets_before vs (set l i v) (suc i) k (omega arith) ∙ get_or-set_other l i k v 0 (λ e. omega arith)

sets_cell : (vs l : List ℕ) (i k : ℕ) → k < length vs → i + k < length l → get_or (sets l i vs) (i + k) 0 ≡ get_or vs k 0
sets_cell [] l i k h r = absurd (omega arith)
sets_cell (v ∷ vs) l i zero h r =
    let e : i + 0 ≡ i = omega arith in
    ap (λ (n : ℕ). get_or (sets (set l i v) (suc i) vs) n 0) e ∙ sets_before vs (set l i v) (suc i) i (omega arith) ∙ get_or-set_same l i v 0 (omega arith)
sets_cell (v ∷ vs) l i (suc k) h r =
    let e : i + suc k ≡ suc i + k = omega arith in
    let n = length-set l i v in
    ap (λ (n : ℕ). get_or (sets (set l i v) (suc i) vs) n 0) e ∙ sets_cell vs (set l i v) (suc i) k (omega arith) (omega arith)

join_cell : (w : ℕ) (a : List (List ℕ)) (r : List ℕ) (b : List (List ℕ)) (c : ℕ) → Wide w a → c < length r
    → get_or (join (a ++ (r ∷ b))) (length a * w + c) 0 ≡ get_or r c 0
unfolding join
join_cell w [] r b c h l =
    let e : 0 * w + c ≡ c = omega arith in
    ap (λ (k : ℕ). get_or (r ++ join b) k 0) e ∙ get_or-append r (join b) 0 c l
join_cell w (x ∷ a) r b c h l =
    let n = h.0 in
    let e : suc (length a) * w + c ≡ length x + (length a * w + c) = omega arith in
    ap (λ (k : ℕ). get_or (x ++ join (a ++ (r ∷ b))) k 0) e ∙ get_or-append-add x (join (a ++ (r ∷ b))) (length a * w + c) 0 ∙ join_cell w a r b c h.1 l

-- A cell of the row r, where there is room for it.
pub cell_kept : (n w c : ℕ) (a : List (List ℕ)) (r : List ℕ) (b : List (List ℕ)) → Wide w (a ++ (r ∷ b)) → c < w → length a * w + c < n
    → get_or (kept n (a ++ (r ∷ b))) (length a * w + c) 0 ≡ get_or r c 0
unfolding kept
cell_kept n w c a r b h l m =
    let x = length_join w (a ++ (r ∷ b)) h in
    let y = length-append a (r ∷ b) in
    let z = (wide_back w a (r ∷ b) h).0 in
    let u = length-replicate {A = ℕ} n 0 in
    let e : length a * w + c ≡ 0 + (length a * w + c) = omega arith in
    let k : suc (length a) * w ≤ length (a ++ (r ∷ b)) * w = mul-le-mul_right w (omega arith) in
    ap (λ (i : ℕ). get_or (sets (replicate n 0) 0 (join (a ++ (r ∷ b)))) i 0) e
    ∙ sets_cell (join (a ++ (r ∷ b))) (replicate n 0) 0 (length a * w + c) (omega arith) (omega arith)
    ∙ join_cell w a r b c (wide_front w a (r ∷ b) h) (omega arith)
