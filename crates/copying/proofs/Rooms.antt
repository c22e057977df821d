-- From a kept table to a room: the rows are read as they were kept, and in a blank room they are followed by zeros. Assumes nothing.
use Prim.Native.Nat.{ℕ, zero, suc, ◌+◌, ◌*◌, ◌-◌, ◌≤◌}
use mathlib.Core.Path.{◌≡◌, refl, sym, ap, ap₂, ◌∙◌}
use mathlib.Core.List.{List, [], ◌∷◌, ◌++◌, append_assoc}
use native.Mathlib.Omega.{arith}
use native.Mathlib.Nat.{sub-zero, zero-sub, suc-sub-suc}
use lib.ListN.{length, get_or, take, drop, replicate, length-append, length-replicate}
use lib.Seq.{sets, sets-eq, drop-cons, drop_at, take-append-le}
use Rattle.meaning.specs.Cells.{cells, zeros, room_cells}
use Rattle.meaning.proofs.Rooms.{zeros_length}
use Rattle.layout.specs.Kept.{join, map_cells, kept, Wide}
use Rattle.layout.proofs.Lengths.{length_join}
use Rattle.copying.specs.Copies.{cells_from, each_row}

cells_in : (l : List ℕ) (a c : ℕ) → a + c ≤ length l → cells_from l a c ≡ take c (drop a l)
unfolding cells_from
cells_in l a zero h = refl
cells_in l a (suc c) h =
    ap (λ (t : List ℕ). get_or l a 0 ∷ t) (cells_in l (suc a) c (omega arith)) ∙ sym (ap (take (suc c)) (drop-cons l a 0 (omega arith)))

row_in : (a r b : List ℕ) (i c : ℕ) → length a ≡ i → c ≤ length r → cells_from (a ++ (r ++ b)) i c ≡ take c r
row_in a r b i c e h =
    let x = length-append a (r ++ b) in
    let y = length-append r b in
    cells_in (a ++ (r ++ b)) i c (omega arith)
    ∙ ap (take c) (drop_at a (r ++ b) i e)
    ∙ take-append-le c r b h

-- Rows of w cells, of which what g makes of the first c is copied.
module _ (g : List ℕ → List ℕ) (w c : ℕ) (k : c ≤ w) where
  rows_in : (rs : List (List ℕ)) (a b : List ℕ) (i : ℕ) → length a ≡ i * w → Wide w rs
      → each_row g (a ++ (join rs ++ b)) w c i (length rs) ≡ cells (λ (r : List ℕ). g (take c r)) rs
  unfolding each_row cells join
  rows_in [] a b i e h = refl
  rows_in (r ∷ rs) a b i e h =
      let n = h.0 in
      let m = length-append a r in
      let x : (r ++ join rs) ++ b ≡ r ++ (join rs ++ b) = append_assoc r (join rs) b in
      let y : a ++ ((r ++ join rs) ++ b) ≡ a ++ (r ++ (join rs ++ b)) = ap (λ (t : List ℕ). a ++ t) x in
      let z : a ++ ((r ++ join rs) ++ b) ≡ (a ++ r) ++ (join rs ++ b) = y ∙ sym (append_assoc a r (join rs ++ b)) in
      ap₂ ◌++◌
      (ap g (ap (λ (t : List ℕ). cells_from t (i * w) c) y ∙ row_in a r (join rs ++ b) (i * w) c e (omega arith)))
      (ap (λ (t : List ℕ). each_row g t w c (suc i) (length rs)) z ∙ rows_in rs (a ++ r) b (suc i) (omega arith) h.1)

  -- What is copied from a kept table that has room for all its rows.
  pub rows_kept : (n : ℕ) (rs : List (List ℕ)) → Wide w rs → length rs * w ≤ n
      → each_row g (kept n rs) w c 0 (length rs) ≡ cells (λ (r : List ℕ). g (take c r)) rs
  unfolding kept
  rows_kept n rs h q =
      let a = length_join w rs h in
      let b = length-replicate {A = ℕ} n 0 in
      let e : sets (replicate n 0) 0 (join rs) ≡ join rs ++ drop (0 + length (join rs)) (replicate n 0) = sets-eq (join rs) (replicate n 0) 0 (omega arith) in
      ap (λ (t : List ℕ). each_row g t w c 0 (length rs)) e ∙ rows_in rs [] (drop (0 + length (join rs)) (replicate n 0)) 0 (omega arith) h

-- Rows made of a list, one of each element.
module _ {A : Type 0} (f : A → List ℕ) where
  pub cells_map : (h : List ℕ → List ℕ) (xs : List A) → cells h (map_cells f xs) ≡ cells (λ (x : A). h (f x)) xs
  unfolding cells map_cells
  cells_map h [] = refl
  cells_map h (x ∷ xs) = ap (λ (t : List ℕ). h (f x) ++ t) (cells_map h xs)

  pub cells_append : (xs ys : List A) → cells f (xs ++ ys) ≡ cells f xs ++ cells f ys
  unfolding cells
  cells_append [] ys = refl
  cells_append (x ∷ xs) ys = ap (λ (t : List ℕ). f x ++ t) (cells_append xs ys) ∙ sym (append_assoc (f x) (cells f xs) (cells f ys))

-- A cleared room is a blank one.
pub cleared_zeros : (n : ℕ) → replicate n 0 ≡ zeros n
unfolding zeros
cleared_zeros zero = refl
cleared_zeros (suc n) = ap (λ (t : List ℕ). 0 ∷ t) (cleared_zeros n)

drop_zeros : (n m : ℕ) → drop n (zeros m) ≡ zeros (m - n)
unfolding zeros
drop_zeros zero m = ap zeros (sym (sub-zero m))
drop_zeros (suc n) zero = ap zeros (sym (zero-sub (suc n)))
drop_zeros (suc n) (suc m) = drop_zeros n m ∙ ap zeros (sym (suc-sub-suc m n))

-- Cells in a blank room of n.
in_room : (n : ℕ) (v : List ℕ) → length v ≤ n → sets (zeros n) 0 v ≡ v ++ zeros (n - length v)
in_room n v h =
    let z = zeros_length n in
    let e : 0 + length v ≡ length v = omega arith in
    sets-eq v (zeros n) 0 (omega arith) ∙ ap (λ (k : ℕ). v ++ drop k (zeros n)) e ∙ ap (λ (t : List ℕ). v ++ t) (drop_zeros (length v) n)

-- The room after a copy, where the cells copied are those of the rows rs.
pub room_of : {R : Type 0} (f : R → List ℕ) (rs : List R) (n : ℕ) (l l' v : List ℕ) → l ≡ zeros n → l' ≡ sets l 0 v → v ≡ cells f rs → length v ≤ n
    → l' ≡ room_cells n f rs
unfolding room_cells
room_of f rs n l l' v z e k h = e ∙ ap (λ (t : List ℕ). sets t 0 v) z ∙ in_room n v h ∙ ap (λ (t : List ℕ). t ++ zeros (n - length t)) k
