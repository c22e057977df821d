-- The words under which marked rows stand: how they are noted and sorted. Assumes nothing.
use Prim.Native.Nat.{ℕ, ◌+◌, ◌*◌, ◌≤◌, ◌<◌}
use mathlib.Core.Path.{◌≡◌, sym, ◌∙◌, ap}
use mathlib.Core.List.{List}
use native.Mathlib.Omega.{arith}
use native.Mathlib.Decide.{ℕ_discrete}
use lib.ListN.{length, get_or, set}
use lib.Seq.{get_or-set_same, get_or-set_other}
use Rattle.sorting.specs.Sorted.{Sorted}
use Rattle.sorting.proofs.Cells.{among_at}
use Rattle.lookups.specs.Owners.{IsOwner, NotesOwners, Owners}

module _ (d ms : List ℕ) where
  pub owners_start : (u : List ℕ) → NotesOwners d ms 0 u
  owners_start u = record { cell = λ i h g. absurd (omega arith) }

  pub owners_more : (u : List ℕ) (i x : ℕ) → i < length u → IsOwner d ms i x → NotesOwners d ms i u → NotesOwners d ms (i + 1) (set u i x)
  owners_more u i x l e n = record { cell = λ j h g. by j h g (ℕ_discrete j i) }
    where
      by : (j : ℕ) → j < i + 1 → (get_or ms j 0 ≡ 0 → ⊥) → Dec (j ≡ i) → get_or (set u i x) j 0 ≡ get_or d (j * 19 + 0) 0
      by j h g (yes r) =
          ap (λ k. get_or (set u i x) k 0) r ∙ get_or-set_same u i x 0 l ∙ e (λ z. g (ap (λ k. get_or ms k 0) r ∙ z)) ∙ ap (λ k. get_or d (k * 19 + 0) 0) (sym r)
      by j h g (no r) = get_or-set_other u i j x 0 r ∙ n.cell j (omega (arith, r, h)) g

  pub owners_past : (u : List ℕ) (i n : ℕ) → n ≤ i → NotesOwners d ms i u → NotesOwners d ms n u
  owners_past u i n h o = record { cell = λ j k g. o.cell j (omega arith) g }

  pub owners_sorted : (u v : List ℕ) (n room : ℕ) → n ≡ 512 → length u ≡ 512 → 256 ≤ room → NotesOwners d ms n u → Sorted u room v → Owners d ms v
  owners_sorted u v n room c l h o s = record {
    rising = s.rising (omega (arith, l, h));
    has = λ i k g. s.cells (get_or d (i * 19 + 0) 0) ∙ among_at u (get_or d (i * 19 + 0) 0) i (omega (arith, l, k)) (o.cell i (omega (arith, c, k)) g);
  }
