-- Objects matched by kind and name, by their rows. Assumes nothing.
use mathlib.Core.Path.{◌≡◌, ◌∙◌, ap₂, subst}
use mathlib.Core.List.{List}
use Prim.Native.Nat.{ℕ}
use Rattle.token.specs.Tokens.{part_of}
use Rattle.rows.specs.Table.{cell_of}
use Rattle.rows.specs.Search.{row_name}
use Rattle.rows.specs.Found.{Found}
use Rattle.indexes.specs.Indexing.{FindsWord}
use Rattle.comparing.specs.Objecting.{FindsObject}

pub object_found : (s o : List ℕ) (i : ℕ) (s2 o2 x : List ℕ) (r : Found) (k p n : ℕ) (w : List ℕ) → k ≡ cell_of o 8 i 0 → p ≡ cell_of o 8 i 3 → n ≡ cell_of o 8 i 4 → w ≡ part_of s p n
    → FindsWord s2 o2 8 0 k 3 w x r → FindsObject s o i s2 o2 x r
unfolding FindsObject row_name
object_found s o i s2 o2 x r k p n w e f g h t =
    subst (λ (l : List ℕ). FindsWord s2 o2 8 0 (cell_of o 8 i 0) 3 l x r) (h ∙ ap₂ (λ (a b : ℕ). part_of s a b) f g) (subst (λ (z : ℕ). FindsWord s2 o2 8 0 z 3 w x r) e t)
