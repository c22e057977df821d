-- The lines depend on the origins of the text's own bytes alone. Assumes nothing.
use mathlib.Core.Path.{◌≡◌, sym, ◌∙◌, ap}
use mathlib.Core.List.{List, ◌∷◌, ◌++◌}
use Prim.Native.Nat.{ℕ, zero, suc, ◌+◌, ◌-◌, ◌≤◌, ◌<◌}
use native.Mathlib.Omega.{arith}
use native.Mathlib.Decide.{dec_le}
use lib.ListN.{length, get_or}
use Rattle.dropping.specs.Drops.{Drop}
use Rattle.mending.specs.Ends.{end_of}
use Rattle.mending.specs.Pieces.{Piece, piece_at, next_place, pieces, dropped_of, line, lines, number_at, dropped}
use Rattle.mending.proofs.Piecing.{next_on, pieces_here, pieces_past}

module _ (s g h : List ℕ) (m : ℕ → ℕ) (e : (p : ℕ) → p < length s → get_or g p 0 ≡ get_or h p 0) where
  abbrev of_pieces : List ℕ → List Piece → List ℕ
  of_pieces x ps = lines x (dropped_of ps)

  one_piece : (k p : ℕ) (ps : List Piece) → p < length s → of_pieces g ps ≡ of_pieces h ps → of_pieces g (piece_at k s p ∷ ps) ≡ of_pieces h (piece_at k s p ∷ ps)
  unfolding piece_at dropped_of lines
  one_piece zero p ps l i = i
  one_piece (suc n) p ps l i = ap (λ (o : ℕ). line o (end_of s p - p) (suc n) ++ of_pieces g ps) (e p l) ∙ ap (λ (x : List ℕ). line (get_or h p 0) (end_of s p - p) (suc n) ++ x) i

  same_from : (k p : ℕ) → length s ≤ p + k → of_pieces g (pieces s m p) ≡ of_pieces h (pieces s m p)
  unfolding dropped_of lines
  same_from zero p l = ap (of_pieces g) (pieces_past s m p (omega arith)) ∙ sym (ap (of_pieces h) (pieces_past s m p (omega arith)))
  same_from (suc k) p l = by_place (λ q a. same_from k q a) (dec_le (length s) p)
    where
      by_place : ((q : ℕ) → length s ≤ q + k → of_pieces g (pieces s m q) ≡ of_pieces h (pieces s m q)) → Dec (length s ≤ p) → of_pieces g (pieces s m p) ≡ of_pieces h (pieces s m p)
      by_place f (yes i) = ap (of_pieces g) (pieces_past s m p i) ∙ sym (ap (of_pieces h) (pieces_past s m p i))
      by_place f (no i) =
          let j : p < length s = omega arith in
          let o = next_on (m p) s p j in
          ap (of_pieces g) (pieces_here s m p j)
          ∙ one_piece (m p) p (pieces s m (next_place (m p) s p)) j (f (next_place (m p) s p) (omega arith))
          ∙ sym (ap (of_pieces h) (pieces_here s m p j))

pub lines_same : (s : List ℕ) (ds : List Drop) (g h : List ℕ) → ((p : ℕ) → p < length s → get_or g p 0 ≡ get_or h p 0) → lines g (dropped s ds) ≡ lines h (dropped s ds)
unfolding dropped
lines_same s ds g h e = same_from s g h (number_at ds) e (length s) 0 (omega arith)
