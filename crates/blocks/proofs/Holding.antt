-- The cells of rows that a table holds. Assumes nothing.
use mathlib.Core.Path.{◌≡◌, ◌∙◌, ap, subst}
use mathlib.Core.List.{List, ◌∷◌, ◌++◌}
use Prim.Native.Nat.{ℕ, suc, ◌+◌, ◌*◌, ◌≤◌, ◌<◌}
use native.Mathlib.Nat.{mul-le-mul_right}
use native.Mathlib.Omega.{arith}
use lib.ListN.{length, length-append, get_or}
use Rattle.layout.specs.Kept.{kept, Wide}
use Rattle.layout.proofs.Cells.{cell_kept}
use Rattle.blocks.specs.Blocks.{Holds}

pub cell_held : {room w : ℕ} {t : List ℕ} {rs : List (List ℕ)} (front rest : List (List ℕ)) (r : List ℕ) (c : ℕ) → Holds room w t rs
    → rs ≡ front ++ (r ∷ rest) → c < w → get_or t (length front * w + c) 0 ≡ get_or r c 0
cell_held {room} {w} {t} {rs} front rest r c h e k =
    let i : Wide w (front ++ (r ∷ rest)) = subst (Wide w) e h.wide in
    let f = h.fits in
    let n = ap length e in
    let l = length-append front (r ∷ rest) in
    let m : suc (length front) * w ≤ room * w = mul-le-mul_right w (omega arith) in
    ap (λ l. get_or l (length front * w + c) 0) h.table
    ∙ ap (λ l. get_or (kept (room * w) l) (length front * w + c) 0) e
    ∙ cell_kept (room * w) w c front r rest i k (omega arith)
