-- The laws of the rows of a table from a row on. Assumes nothing.
use mathlib.Core.Path.{◌≡◌, sym, ◌∙◌, ap, ap₂}
use mathlib.Core.List.{List, [], ◌∷◌, ◌++◌, append_assoc}
use Prim.Native.Nat.{ℕ, ◌+◌, ◌-◌, ◌*◌, ◌<◌}
use native.Mathlib.Omega.{arith}
use native.Mathlib.Nat.{zero-mul, add-mul}
use lib.ListN.{length, get_or, length-append, get_or-append}
use lib.Seq.{get_or-append-add}
use Rattle.rows.specs.Table.{cell_of}
use Rattle.meaning.specs.Cells.{cells, zeros, room_cells}
use Rattle.meaning.proofs.Rooms.{cells_length}
use Rattle.copying.proofs.Rooms.{cells_append}
use Rattle.writing.specs.Promises.{From}

module _ {R : Type 0} (w : ℕ) (f : R → List ℕ) (h : (r : R) → length (f r) ≡ w) where
  -- A cell of the first row.
  pub from_cell : {t : List ℕ} {n k : ℕ} (x : R) (xs : List R) (c : ℕ) → c < w → From w f t n k (x ∷ xs) → cell_of t w k c ≡ get_or (f x) c 0
  unfolding cells
  from_cell {t} {n} {k} x xs c p a =
      let e : k * w + c ≡ length a.front + c = ap (λ (i : ℕ). i + c) (sym a.place) in
      let l = h x in
      let q : c < length (f x) = omega (arith, l, p) in
      let m = length-append (f x) (cells f xs) in
      let g : c < length (f x ++ cells f xs) = omega (arith, q, m) in
      ap₂ (λ (u : List ℕ) (i : ℕ). get_or u i 0) a.whole e
      ∙ get_or-append-add a.front ((f x ++ cells f xs) ++ a.rest) c 0
      ∙ get_or-append (f x ++ cells f xs) a.rest 0 c g
      ∙ get_or-append (f x) (cells f xs) 0 c q

  -- The rows behind some.
  pub from_append : {t : List ℕ} {n k m : ℕ} (xs ys : List R) → m ≡ k + length xs → From w f t n k (xs ++ ys) → From w f t n m ys
  from_append {t} {n} {k} {m} xs ys e a =
      let c = a.count in
      let l = length-append xs ys in
      record {
        front = a.front ++ cells f xs;
        rest = a.rest;
        whole = a.whole ∙ ap (λ (u : List ℕ). a.front ++ (u ++ a.rest)) (cells_append f xs ys) ∙ simp append_assoc;
        place = length-append a.front (cells f xs) ∙ ap₂ ◌+◌ a.place (cells_length w f h xs) ∙ sym (add-mul k (length xs) w) ∙ ap (λ (i : ℕ). i * w) (sym e);
        count = omega (arith, c, l, e);
      }

-- The rows of a room.
pub from_room : {R : Type 0} (w : ℕ) (f : R → List ℕ) (room : ℕ) (rs : List R) (t : List ℕ) (n : ℕ) → t ≡ room_cells room f rs → n ≡ length rs → From w f t n 0 rs
unfolding room_cells
from_room w f room rs t n e q = record { front = []; rest = zeros (room - length (cells f rs)); whole = e; place = sym (zero-mul w); count = omega arith }
