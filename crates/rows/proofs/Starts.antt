-- The laws of where a row begins: past the end any place past the end serves.
-- Assumes nothing.
use Prim.Native.Nat.{ℕ, ◌+◌, ◌*◌, ◌/◌, ◌<◌, ◌≤◌, min}
use mathlib.Core.Path.{◌≡◌, sym, ap, ◌∙◌}
use mathlib.Core.List.{List}
use native.Mathlib.Nat.{div-lt_iff_lt-mul, le-div_iff_mul-le}
use native.Mathlib.Omega.{arith}
use native.Mathlib.Decide.{dec_le}
use lib.ListN.{length, get_or, get_or-eq_default}

-- a cell past the end is 0
pub cell_past : (l : List ℕ) (i : ℕ) → length l ≤ i → get_or l i 0 ≡ 0
cell_past l i h = get_or-eq_default l 0 {n = i} h

-- where a row begins, by a division of the end
module _ (e w r : ℕ) where
  pub start_none : w ≡ 0 → 0 ≡ min e (r * w)
  start_none z =
      let m : r * w ≡ r * 0 = ap (λ (k : ℕ). r * k) z in
      omega arith

  pub start_past : 0 < w → e / w < r → e ≡ min e (r * w)
  start_past h p =
      let m : e < r * w = (div-lt_iff_lt-mul h).0 p in
      omega arith

  pub start_inside : 0 < w → r ≤ e / w → r * w ≤ e
  start_inside h p = (le-div_iff_mul-le h).0 p

-- a cell by a place that is no larger than the end
at_most_lem : (l : List ℕ) (a c : ℕ) → Dec (length l ≤ a) → get_or l (min (length l) a + c) 0 ≡ get_or l (a + c) 0
at_most_lem l a c (yes h) = cell_past l (min (length l) a + c) (omega arith) ∙ sym (cell_past l (a + c) (omega arith))
at_most_lem l a c (no h) =
    let e : min (length l) a ≡ a = omega arith in
    ap (λ (k : ℕ). get_or l (k + c) 0) e

pub cell_start : (l : List ℕ) (a c : ℕ) → get_or l (min (length l) a + c) 0 ≡ get_or l (a + c) 0
cell_start l a c = at_most_lem l a c (dec_le (length l) a)

at_most_column : (l : List ℕ) (a c : ℕ) → Dec (length l ≤ c) → get_or l (a + min (length l) c) 0 ≡ get_or l (a + c) 0
at_most_column l a c (yes h) = cell_past l (a + min (length l) c) (omega arith) ∙ sym (cell_past l (a + c) (omega arith))
at_most_column l a c (no h) =
    let e : min (length l) c ≡ c = omega arith in
    ap (λ (k : ℕ). get_or l (a + k) 0) e

pub cell_column : (l : List ℕ) (a c : ℕ) → get_or l (a + min (length l) c) 0 ≡ get_or l (a + c) 0
cell_column l a c = at_most_column l a c (dec_le (length l) c)

-- one row on
pub start_next : (e w i : ℕ) → min e (min e (i * w) + w) ≡ min e ((i + 1) * w)
start_next e w i = omega arith
