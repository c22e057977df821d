-- The marks are the numbers of the drops at their places, so the pieces by both are the same. Assumes nothing.
use mathlib.Core.Path.{◌≡◌, refl, sym, ◌∙◌, ap}
use mathlib.Core.List.{List, [], ◌∷◌}
use mathlib.Core.Bool.{Bool, true, false}
use Prim.Native.Nat.{ℕ, zero, suc, ◌+◌, ◌≤◌, ◌<◌}
use native.Mathlib.Omega.{arith}
use native.Mathlib.Decide.{dec_le}
use lib.ListN.{length, get_or, set, replicate, length-set, length-replicate, get_or-replicate}
use lib.Seq.{get_or-set_same, get_or-set_other}
use lib.Dec.{eqb}
use borrow.Author.Tests.{eqb-true, eqb-false}
use Rattle.token.specs.Find.{pick}
use Rattle.dropping.specs.Drops.{Drop, scatter}
use Rattle.mending.specs.Pieces.{Piece, piece_at, next_place, pieces, kept_of, dropped_of, bytes_at, lines, number_or, number_at, kept, dropped, mended}
use Rattle.mending.specs.Promises.{marked, kept_by, mended_by, lines_by}
use Rattle.mending.proofs.Piecing.{next_on, pieces_here, pieces_past}

-- A mark after a store.
mark_set : (m : List ℕ) (x p : ℕ) (n : ℕ) → p < length m → get_or (set m x n) p 0 ≡ pick (eqb p x) n (get_or m p 0)
mark_set m x p n h = by_test (eqb p x) refl
  where
    by_test : (b : Bool) → eqb p x ≡ b → get_or (set m x n) p 0 ≡ pick b n (get_or m p 0)
    by_test true e =
        let i : p ≡ x = eqb-true p x e in
        let l : x < length m = omega arith in
        ap (λ (q : ℕ). get_or (set m x n) q 0) i ∙ get_or-set_same m x n 0 l
    by_test false e = get_or-set_other m x p n 0 (eqb-false p x e)

-- The mark at p, after all stores.
scattered : (ds : List Drop) (m : List ℕ) (p : ℕ) → p < length m → get_or (scatter m ds) p 0 ≡ number_or (get_or m p 0) ds p
unfolding scatter number_or
scattered [] m p h = refl
scattered (x ∷ xs) m p h =
    let l = length-set m x.place x.number in
    scattered xs (set m x.place x.number) p (omega arith)
    ∙ ap (λ (n : ℕ). number_or n xs p) (mark_set m x.place p x.number h)

-- Pieces by numbers that are equal in the text are equal.
module _ (s : List ℕ) (m n : ℕ → ℕ) (e : (p : ℕ) → p < length s → m p ≡ n p) where
  same_from : (k p : ℕ) → length s ≤ p + k → pieces s m p ≡ pieces s n p
  same_from zero p h = pieces_past s m p (omega arith) ∙ sym (pieces_past s n p (omega arith))
  same_from (suc k) p h = by_place (λ q a. same_from k q a) (dec_le (length s) p)
    where
      by_place : ((q : ℕ) → length s ≤ q + k → pieces s m q ≡ pieces s n q) → Dec (length s ≤ p) → pieces s m p ≡ pieces s n p
      by_place f (yes l) = pieces_past s m p l ∙ sym (pieces_past s n p l)
      by_place f (no l) =
          let i : p < length s = omega arith in
          let o = next_on (m p) s p i in
          pieces_here s m p i
          ∙ ap (piece_at (m p) s p ∷◌) (f (next_place (m p) s p) (omega arith))
          ∙ ap (λ (j : ℕ). piece_at j s p ∷ pieces s n (next_place j s p)) (e p i)
          ∙ sym (pieces_here s n p i)

  pub same_pieces : pieces s m 0 ≡ pieces s n 0
  same_pieces = same_from (length s) 0 (omega arith)

-- So it is for blank marks into which the drops were put.
module _ (s m : List ℕ) (ds : List Drop) (h : length s ≤ 65535) (e : m ≡ scatter (replicate 65536 0) ds) where
  number_is : (p : ℕ) → p < length s → marked m p ≡ number_at ds p
  unfolding number_at
  number_is p i =
      let z = length-replicate {A = ℕ} 65536 0 in
      let l : p < 65536 = omega arith in
      ap (λ (x : List ℕ). get_or x p 0) e
      ∙ scattered ds (replicate 65536 0) p (omega (arith, z, l))
      ∙ ap (λ (n : ℕ). number_or n ds p) (get_or-replicate 65536 p 0 0 l)

  pieces_are : pieces s (marked m) 0 ≡ pieces s (number_at ds) 0
  pieces_are = same_pieces s (marked m) (number_at ds) number_is

  pub kept_is : kept_by s m 0 ≡ kept s ds
  unfolding kept_by kept
  kept_is = ap kept_of pieces_are

  pub mended_is : mended_by s m 0 ≡ mended s ds
  unfolding mended_by mended
  mended_is = ap (bytes_at s) kept_is

  pub lines_are : (g : List ℕ) → lines_by s g m 0 ≡ lines g (dropped s ds)
  unfolding lines_by dropped
  lines_are g = ap (λ (x : List Piece). lines g (dropped_of x)) pieces_are
